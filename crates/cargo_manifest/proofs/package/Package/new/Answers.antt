use Rattle.std.proofs.Common.{refl}
use Rattle.manifest_schema.specs.ManifestForms.{package_rows}
use Rattle.cargo_manifest.proofs.package.Package.new.Goals as goal

pub returns : goal.returns
unfolding package_rows
returns g c = λ f. let h = c.package_with_name.ensures f in (h.0, (h.1.0, (refl, h.1.1.1)))
