use Rattle.std.proofs.Common.{refl, ap, subst, ◌∙◌}
use Rattle.manifest_answers.specs.Placed.{places_data, AreFoundIn}
use Rattle.manifest_answers.proofs.UnresolvedLemmas.{own_paths_of, asked_paths_of}
use Rattle.manifest_answers.proofs.unresolved.refusals_value.Goals as goal

pub returns : goal.returns
returns c =
    let nodes = c.args.nodes.now in
    let own = c.in_ok-own.own.items in
    let shared = c.in_ok-shared.shared.items in
    let own_is = c.in_ok-own_places.ensures ∙ ap places_data c.as_slice.ensures.value in
    let shared_is = c.in_ok-shared_places.ensures ∙ ap places_data c.as_slice-2.ensures.value in
    record {
      nodes = nodes;
      own = own;
      shared = shared;
      says_all = refl;
      stand_there = subst (λ ps. AreFoundIn c.args.bytes.now ps own) (own_paths_of nodes) c.in_ok-own.ensures;
      ask_for = subst (λ ps. AreFoundIn c.args.root.now ps shared) (asked_paths_of nodes) c.in_ok-shared.ensures;
      is_data = c.in_ok-value.ensures ∙ rw (c.in_ok-tree.ensures, own_is, shared_is) refl;
    }
