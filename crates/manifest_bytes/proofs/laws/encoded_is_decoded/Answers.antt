use Rattle.manifest_bytes.proofs.DecodedLemmas.{encoded_is_decoded}
use Rattle.manifest_bytes.proofs.laws.encoded_is_decoded.Goals as goal

pub returns : goal.returns
returns c = encoded_is_decoded
