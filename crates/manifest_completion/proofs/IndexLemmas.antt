-- Lemmas on what is looked up: the paths of names, and taken paths.
use Rattle.manifest_schema.specs.Prelude.{Bor, bytes_eq, nat_cmp, slice_cmp, BTreeMap, get_by, BTreeSet, list_any-append, is_eq-slice_cmp, btree_map_updates_str, bytes_eq-Decides, Text, Product}
use Rattle.std.proofs.Common.{◌≡◌, List, [], ◌∷◌, ◌++◌, Bool, true, false, cond, refl, ap, sym, ◌∙◌, ◌||◌, not, option_map, Option, Some, if◌then◌else◌}
use Rattle.std.specs.BTreeMap as tree
use Rattle.std.specs.BTreeSet.{contains}
use Rattle.std.specs.BTreeSet as sorted
use Rattle.std.proofs.lemmas.Bool.Decides.{same_from_decides, Decides-like}
use Rattle.manifest_completion.specs.Finds.{Discovered}
use Rattle.manifest_completion.specs.Targets.{first_path, has_path, found, added}
use Rattle.manifest_completion.specs.Index.{Indexes, paths_in, SamePaths}
use Rattle.manifest_completion.proofs.DiscoveredLemmas.{has_text}

pub bytes_eq-sym : (a b : Text) → bytes_eq a b ≡ bytes_eq b a
bytes_eq-sym a b = same_from_decides (bytes_eq a b) (bytes_eq b a) (bytes_eq-Decides a b) (Decides-like (bytes_eq b a)
    sym sym (bytes_eq-Decides b a))

-- FINDS
-- one more find before those that are indexed
pub indexes_more : (m n : BTreeMap (Bor Text) (Bor Text)) (f : Discovered) (fs : List Discovered) (name path : Bor Text)
    → name.now ≡ f.name → path.now ≡ f.path →
    tree.Updates (λ x y. slice_cmp nat_cmp x.now y.now) m n name (Some path) → Indexes m fs → Indexes n (f ∷ fs)
indexes_more m n f fs name path named here updates indexed q =
    rw (btree_map_updates_str name.now m n (Some path) updates q, named, bytes_eq-sym f.name q)
    (one (bytes_eq q f.name) (get_by (λ (k : Bor Text). slice_cmp nat_cmp q k.now) m) (indexed q))
  where
    one : (b : Bool) (o : Option (Bor Text)) → option_map (λ p. p.now) o ≡ first_path fs q → option_map (λ p. p.now)
        (cond b (Some path) o) ≡ (if b then Some f.path else first_path fs q)
    one true o e = ap Some here
    one false o e = e

-- TAKEN PATHS
-- whether a path is in the set
pub was_taken : (s : BTreeSet (Bor Text)) (path : Bor Text) → contains (λ x y. slice_cmp nat_cmp x.now y.now) s
    path ≡ has_path (paths_in s) path.now
was_taken s path = has_text (λ (k : Bor Text). k.now) path.now s.keys

-- one more path in it
pub one_taken : (s n : BTreeSet (Bor Text)) (path : Bor Text) → sorted.Updates (λ x y. slice_cmp nat_cmp x.now y.now) s
    n path true → SamePaths (paths_in n) (paths_in s ++ path.now ∷ [])
one_taken s n path updates q =
    let key : Bor Text = record { ref_ptr = (0, 0); now = q } in
    sym (was_taken n key) ∙ updates.0 key
    ∙ ap (λ b. cond b true (contains (λ x y. slice_cmp nat_cmp x.now y.now) s key)) (is_eq-slice_cmp path.now q
    ∙ bytes_eq-sym path.now q)
    ∙ ap (cond (bytes_eq q path.now) true) (was_taken s key)
    ∙ one (bytes_eq q path.now) (has_path (paths_in s) q)
    ∙ sym (list_any-append (bytes_eq q) (paths_in s) (path.now ∷ []))
  where
    one : (b had : Bool) → cond b true had ≡ (had || (b || false))
    one true true = refl
    one true false = refl
    one false true = refl
    one false false = refl

-- THE SAME PATHS
pub same_append : (ps qs rs : List Text) → SamePaths ps qs → SamePaths (ps ++ rs) (qs ++ rs)
same_append ps qs rs same q = list_any-append (bytes_eq q) ps rs ∙ ap (λ b. b || has_path rs q) (same q)
    ∙ sym (list_any-append (bytes_eq q) qs rs)

-- which finds are added depends only on which paths are there, and not on their order or number
pub added_same : (ps qs : List Text) (fs : List Discovered) → SamePaths ps qs → added ps fs ≡ added qs fs
added_same ps qs [] same = refl
added_same ps qs (f ∷ fs) same =
    let more = f.path ∷ [] in
    rw (same f.path) (ap (λ (xs : List Product). (if has_path qs f.path then [] else found f ∷ []) ++ xs)
    (added_same (ps ++ more) (qs ++ more) fs (same_append ps qs more same)))

-- one more find, where its path is put in, which returns whether it was new
pub added_more : (had now : List Text) (f : Discovered) (fs : List Discovered) (path : Text) (is_new : Bool)
    → path ≡ f.path → SamePaths now (had ++ path ∷ []) → is_new ≡ not (has_path had path) →
    added had (f ∷ fs) ≡ (if is_new then found f ∷ [] else []) ++ added now fs
added_more had now f fs path is_new at taken new =
    rw (new, at) (ap (λ (xs : List Product). (if has_path had f.path then [] else found f ∷ []) ++ xs)
    (sym (added_same now (had ++ f.path ∷ []) fs (rw at at taken))) ∙ one (has_path had f.path))
  where
    one : (b : Bool) → (if b then [] else found f ∷ []) ++ added now fs ≡ (if not b then found f ∷ [] else [])
        ++ added now fs
    one true = refl
    one false = refl
