use Rattle.std.proofs.Common.{◌≡◌, ◌++◌, codes, ap, ◌∙◌, rules, append_assoc}
use Rattle.manifest_schema.specs.Prelude.{key, found_under, unused_keys}
use Rattle.manifest_fault.specs.Placed.{placed}
use Rattle.manifest_value.specs.Sources.{rest_view}
use Rattle.manifest_fault.specs.Found.{found}
use Rattle.manifest_fault.proofs.FindingTrees.{found_under_of, found_and}
use Rattle.cargo_manifest.proofs.inspecting.old_findings.Goals as goal

pub returns-in_ok-found-in-Some-2 : goal.returns-in_ok-found-in-Some-2
returns-in_ok-found-in-Some-2 g c =
    let inside = c.in_ok-inside-in-Some.inside in
    let rows = c.in_ok-rows.rows in
    let under : found c.in_ok-found-in-Some.found ≡ found rows ++ found_under (key (codes "project")) (found inside) =
    found_and _ _ _ c.in_ok-found-in-Some.ensures ∙ ap (λ fs. found rows ++ fs)
    (found_under_of (key (codes "project")) (placed inside)) in
    let unread = unused_keys (rest_view c.in_ok-left-in-Some.left.items) in
    let whole : found c.in_ok-found-in-Some-2.found ≡ found rows ++ (found_under (key (codes "project")) (found inside)
    ++ unread) =
    c.in_ok-found-in-Some-2.ensures ∙ ap (λ fs. fs ++ unread) under ∙ append_assoc (found rows)
    (found_under (key (codes "project")) (found inside)) unread in
    search (rules, whole)
