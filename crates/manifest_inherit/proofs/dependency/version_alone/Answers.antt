use Rattle.manifest_schema.specs.Prelude.{string, table, no_members, member, detailed_rows}
use Rattle.std.proofs.Common.{codes, rules, string_bytes, sym}
use Rattle.manifest_schema.proofs.Forms.PartLaws.{detailed_sound}
use Rattle.manifest_inherit.specs.Resolved.{version_alone}
use Rattle.manifest_inherit.proofs.dependency.version_alone.Goals as goal

pub returns : goal.returns
unfolding detailed_rows
returns c =
    let v = string_bytes c.args.version.now in
    detailed_sound.single (table (member (codes "version") (string v) no_members)) _ (version_alone v)
    (sym c.in_ok-version.ensures, c.default-detail.ensures.1) (search rules)
