use Rattle.manifest_schema.specs.Prelude.{get_by_text, bytes_eq}
use Rattle.std.proofs.Common.{Some, ap, ◌∙◌, string_bytes}
use Rattle.std.proofs.lemmas.Map.Text.{btree_map_updates_text}
use Rattle.manifest_completion.specs.Stored.{stored_answer}
use Rattle.manifest_completion.proofs.ListingLemmas.{ap_cond}
use Rattle.manifest_completion.proofs.listings.Listings.put.Goals as goal

pub returns-clause-put : goal.returns-clause-put
returns-clause-put c = λ at.
    let m = c.args.self.now.listed in let n = c.insert.new.self in
    let key = string_bytes c.in_ok-key.key in
    rw (← c.in_ok-key.ensures.ok)
    (ap stored_answer (btree_map_updates_text key m n (Some c.args.listing) c.in_ok-insert.ensures.updates at)
    ∙ ap_cond stored_answer (bytes_eq key at) (Some c.args.listing) (get_by_text m at))
