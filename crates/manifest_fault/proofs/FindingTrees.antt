-- What is found as a tree: each node, at a path, and what the schema finds so, also leniently.
use Rattle.manifest_schema.specs.Prelude.{Path, Step, fault, ignored, unused, found_under, leniently}
use Rattle.manifest_schema.specs.Findings.{Finding}
use Rattle.std.proofs.Common.{◌≡◌, List, [], ◌∷◌, ◌++◌, map, refl, ap, ap₂, ◌∙◌, append_assoc, Vec, Global, rules}
use Rattle.std.specs.Prelude.{flat_map, option_map}
use Rattle.std.proofs.lemmas.Grind.{common_steps}
use Rattle.std.proofs.lemmas.List.{map-append}
use Rattle.std.proofs.lemmas.List.Folds.{flat_map-map}
use Rattle.manifest_fault.specs.Faults.{step_of}
use Rattle.manifest_fault.specs.Placed.{placed_within, placed_below, first_of, placed_in, placed_among}
use Rattle.manifest_fault.specs.Found.{finding_at, findings_of}
use Rattle.manifest_fault.specs.declared.fault.Step.{Step as CodeStep}
use Rattle.manifest_fault.specs.declared.findings.FindingNode.{FindingNode, Within, the_lemmas}
use Rattle.manifest_fault.specs.declared.schema_findings.Finding.{Finding as CodeFinding}
use Rattle.manifest_fault.specs.declared.schema_findings.Finding.TheVariants.{Fault, Ignored, Unused}

-- ONE NODE
pub within : {C : Type 0} (s : CodeStep) (inside : Vec (FindingNode C) Global)
    → placed_in (Within s inside) ≡ placed_within (step_of s) (placed_among inside.items)
within {C} s inside =
    let one : placed_in (Within s inside) ≡ placed_within (step_of s) (flat_map (λ fs. fs) (map placed_in inside.items))
    = search (rules, the_lemmas) in
    one ∙ ap (placed_within (step_of s)) (flat_map-map (λ fs. fs) placed_in inside.items)

-- AT A PATH
pub below-under : {C : Type 0} (p : Path) (s : Step) (fs : List (Path × C)) → placed_below (p ++ s ∷ [])
    fs ≡ placed_below p (placed_within s fs)
below-under p s [] = refl
below-under p s (f ∷ fs) = ap₂ (λ q gs. (q, f.1) ∷ gs) (append_assoc p (s ∷ []) f.0) (below-under p s fs)

-- the first of what a step leads to
pub first_under : {C : Type 0} (s : Step) (fs : List (Path × C)) → first_of (placed_within s fs) ≡ option_map
    (λ f. (s ∷ f.0, f.1)) (first_of fs)
first_under s [] = refl
first_under s (f ∷ fs) = refl

-- WHAT THE SCHEMA FINDS in the value that a step leads to
pub found_under_of : (s : Step) (fs : List (Path × CodeFinding)) → findings_of (placed_within s fs) ≡ found_under s
    (findings_of fs)
found_under_of s [] = refl
found_under_of s ((p, Fault c ws) ∷ fs) = ap (λ gs. finding_at (s ∷ p) (Fault c ws) ∷ gs) (found_under_of s fs)
found_under_of s ((p, Ignored c ws) ∷ fs) = ap (λ gs. finding_at (s ∷ p) (Ignored c ws) ∷ gs) (found_under_of s fs)
found_under_of s ((p, Unused k) ∷ fs) = ap (λ gs. finding_at (s ∷ p) (Unused k) ∷ gs) (found_under_of s fs)

pub found_and : (fs gs hs : List (Path × CodeFinding)) → fs ≡ gs ++ hs → findings_of fs ≡ findings_of gs
    ++ findings_of hs
found_and fs gs hs h = ap findings_of h ∙ map-append (λ (f : Path × CodeFinding). finding_at f.0 f.1) gs hs

-- LENIENTLY
pub lenient_append : (fs gs : List Finding) → leniently (fs ++ gs) ≡ leniently fs ++ leniently gs
lenient_append [] gs = refl
lenient_append (fault p c ws ∷ fs) gs = ap (λ t. ignored p c ws ∷ t) (lenient_append fs gs)
lenient_append (ignored p c ws ∷ fs) gs = ap (λ t. ignored p c ws ∷ t) (lenient_append fs gs)
lenient_append (unused p ∷ fs) gs = ap (λ t. unused p ∷ t) (lenient_append fs gs)

pub lenient_under : (s : Step) (fs : List Finding) → leniently (found_under s fs) ≡ found_under s (leniently fs)
lenient_under s [] = refl
lenient_under s (fault p c ws ∷ fs) = ap (λ t. ignored (s ∷ p) c ws ∷ t) (lenient_under s fs)
lenient_under s (ignored p c ws ∷ fs) = ap (λ t. ignored (s ∷ p) c ws ∷ t) (lenient_under s fs)
lenient_under s (unused p ∷ fs) = ap (λ t. unused (s ∷ p) ∷ t) (lenient_under s fs)

-- for a step of a loop over what the schema finds
pub ruleset finding_steps = (common_steps, found_under_of, lenient_append)
