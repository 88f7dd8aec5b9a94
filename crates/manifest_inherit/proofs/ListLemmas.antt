-- The refusals of a tree, by its parts.
use Rattle.manifest_schema.specs.Prelude.{Text, Path, Step, key}
use Rattle.std.proofs.Common.{◌≡◌, List, [], ◌∷◌, ◌++◌, map, None, option_map, refl, ap, ◌∙◌}
use Rattle.std.proofs.lemmas.Grind.{common_steps}
use Rattle.std.proofs.lemmas.List.{map-append}
use Rattle.manifest_fault.specs.Placed.{placed_within, placed_under, first_of}
use Rattle.manifest_inherit.specs.Refused.{PlacedRefusals}
use Rattle.manifest_inherit.specs.Answers.{refusal_of}
use Rattle.manifest_inherit.specs.declared.error.Refusal.{Refusal as RefusalOfCode}

-- refusals of the code, as the definitions see them
abbrev pub refusals_of : List (Path × RefusalOfCode) → PlacedRefusals
refusals_of fs = map (λ f. (f.0, refusal_of f.1)) fs

pub refused_and : (fs gs hs : List (Path × RefusalOfCode)) → fs ≡ gs ++ hs → refusals_of fs ≡ refusals_of gs
    ++ refusals_of hs
refused_and fs gs hs h = ap refusals_of h ∙ map-append (λ (f : Path × RefusalOfCode). (f.0, refusal_of f.1)) gs hs

pub refused_under_of : (s : Step) (fs : List (Path × RefusalOfCode)) → refusals_of (placed_within s fs) ≡ placed_within s
    (refusals_of fs)
refused_under_of s [] = refl
refused_under_of s (f ∷ fs) = ap (λ gs. (s ∷ f.0, refusal_of f.1) ∷ gs) (refused_under_of s fs)

pub refused_under : (name : Text) (fs gs hs : List (Path × RefusalOfCode)) → fs ≡ gs ++ placed_under name hs
    → refusals_of fs ≡ refusals_of gs ++ placed_under name (refusals_of hs)
refused_under name fs gs hs h = refused_and fs gs (placed_under name hs) h ∙ ap (λ is. refusals_of gs ++ is)
    (refused_under_of (key name) hs)

-- the first refusal
pub first_refused : (fs : List (Path × RefusalOfCode)) → first_of (refusals_of fs) ≡ option_map
    (λ f. (f.0, refusal_of f.1)) (first_of fs)
first_refused [] = refl
first_refused (f ∷ fs) = refl

pub none_refused : (fs : List (Path × RefusalOfCode)) → first_of fs ≡ None → refusals_of fs ≡ []
none_refused [] h = refl
none_refused (f ∷ fs) h = cc

-- for what is listed step by step
pub ruleset refusal_steps = (common_steps, refused_under_of, first_refused, none_refused)
