use Rattle.std.proofs.Common.{◌≡◌, ap, None, map}
use Rattle.std.specs.Prelude.{option_map}
use Rattle.manifest_fault.specs.Faults.{path_of}
use Rattle.toml.specs.View.{view}
use Rattle.cargo_manifest.specs.Tables.{package_content}
use Rattle.cargo_manifest.specs.Whole.{manifest_content}
use Rattle.manifest_completion.proofs.UnfoundLemmas.{without_package}
use Rattle.cargo_manifest.proofs.completion.Manifest+P+Value.unfound_targets.Goals as goal

pub returns-in-None-clause-answers : goal.returns-in-None-clause-answers
returns-in-None-clause-answers g c =
    let none : (manifest_content (λ m. g.P.Schema.kind.written (g.P.Schema.content m)) view c.args.self.now).«package»
    ≡ None = ap (option_map (package_content (λ m. g.P.Schema.kind.written (g.P.Schema.content m)))) c.in-None.is in
    without_package (g.FS.AbstractFilesystem.allows c.args.fs.now)
    (manifest_content (λ m. g.P.Schema.kind.written (g.P.Schema.content m)) view c.args.self.now)
    (map path_of c.new.result.items) none (ap (map path_of) c.new.ensures.items)
