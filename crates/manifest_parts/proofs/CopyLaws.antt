-- A copy of a value that may be inherited holds what it is copied from, where that of the value does.
use Rattle.std.proofs.Common.{◌≡◌, refl, ap}
use Rattle.manifest_schema.specs.Kinds.{local}
use Rattle.manifest_parts.specs.declared.inherited.True.{True}
use Rattle.manifest_parts.specs.declared.inherited.MaybeInherited.{MaybeInherited}
use Rattle.manifest_parts.specs.declared.inherited.MaybeInherited.TheVariants.{Inherited, Local}
use Rattle.manifest_parts.specs.Parts.{inh_content}

-- S is what `clone` says of values that may be inherited
pub shared_copied : {X A : Type 0} (S : MaybeInherited X → MaybeInherited X → Type 0) (f : X → A)
    → ((w : True) (y : X) → S (Inherited w) (Local y) → ⊥) → ((x : X) (w : True) → S (Local x) (Inherited w) → ⊥)
    → ((x y : X) → S (Local x) (Local y) → f y ≡ f x)
    → (o p : MaybeInherited X) → S o p → inh_content f p ≡ inh_content f o
shared_copied S f l r same (Inherited v) (Inherited w) h = refl
shared_copied S f l r same (Inherited w) (Local y) h = absurd (l w y h)
shared_copied S f l r same (Local x) (Inherited w) h = absurd (r x w h)
shared_copied S f l r same (Local x) (Local y) h = ap local (same x y h)
