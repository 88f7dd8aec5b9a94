use Rattle.std.proofs.Common.{arith, ◌≡◌, ◌∙◌, ℕ, Option, Some, None}
use Rattle.std.specs.Prelude.{nat_le}
use Rattle.std.specs.Option.{is_some}
use Rattle.cargo_manifest.specs.Tables.{workspace_of}
use Rattle.cargo_manifest.specs.Whole.{manifest_of}
use Rattle.manifest_inherit.specs.Sizes.{inherited_size, Leaves}
use Rattle.manifest_inherit.proofs.sizes.inherits_at_most.Goals as goal

-- something is left exactly where the size is no more
fits : (most size : ℕ) (o : Option ℕ) → Leaves most size o → is_some o ≡ nat_le size most
fits most size None h = grind (arith, h)
fits most size (Some left) h = grind (arith, h)

pub returns : goal.returns
unfolding inherited_size
returns g c =
    let m = manifest_of g.P.Schema.kind g.W.Schema.kind g.P.Schema.content g.W.Schema.content c.args.manifest.now in
    let w = workspace_of g.V.Schema.kind g.V.Schema.content c.args.workspace.now in
    c.is_some.ensures ∙ fits c.args.most (inherited_size m w) c.less_inherited.result c.less_inherited.ensures
