-- What a change at a path made is the value at the path.
use Rattle.std.proofs.Common.{◌≡◌, ℕ, zero, suc, cond, [], ◌∷◌, Option, Some, None, option_map, option_and_then, Ordering, Less, Equal, Greater, nat_cmp, is_eq, refl, sym, subst, ◌∙◌}
use Rattle.std.proofs.lemmas.Option.{none-some, same_Some}
use Rattle.std.specs.Cmp.Lexicographic.{slice_cmp}
use Rattle.toml.specs.Data.{Data, string, integer, float, boolean, datetime, array, table, Items, no_items, item, Members, no_members, member, get_member, get_item}
use Rattle.manifest_places.specs.Paths.{Text, key, index, Path, value_at}
use Rattle.manifest_places.specs.Changes.{change_member, change_item, changed_at, with_value}

-- what f made of something is there at the end
pub Made : (Data → Option Data) → Option Data → Type 0
Made f found = (d : Data) × (e : Data) × (f d ≡ Some e) × (found ≡ Some e)

-- what holds of each value that g makes holds of this one
pub from_map : {A B : Type 0} (g : A → B) (o : Option A) (R : B → Type 0) → ((a : A) → o ≡ Some a → R (g a))
    → (b : B) → option_map g o ≡ Some b → R b
from_map g None R next b h = absurd (none-some b h)
from_map g (Some a) R next b h = subst R (same_Some (g a) b h) (next a refl)

pick : (o : Ordering) (k l : Text) (f : Data → Option Data) (d : Data) (ms ms' : Members)
    → ((more : Members) → change_member k f ms ≡ Some more → Made f (get_member k more))
    → slice_cmp nat_cmp k l ≡ o
    → cond (is_eq o) (option_map (λ e. member l e ms) (f d))
    (option_map (λ more. member l d more) (change_member k f ms)) ≡ Some ms'
    → Made f (get_member k ms')
unfolding Made
pick Equal k l f d ms ms' more is h =
    from_map (λ e. member l e ms) (f d) (λ x. Made f (get_member k x)) (λ e made. (d, e, made, rw is refl)) ms' h
pick Less k l f d ms ms' more is h =
    from_map (λ rest. member l d rest) (change_member k f ms) (λ x. Made f (get_member k x))
    (λ rest made. rw is (more rest made)) ms' h
pick Greater k l f d ms ms' more is h =
    from_map (λ rest. member l d rest) (change_member k f ms) (λ x. Made f (get_member k x))
    (λ rest made. rw is (more rest made)) ms' h

made_member : (k : Text) (f : Data → Option Data) (ms ms' : Members) → change_member k f ms ≡ Some ms'
    → Made f (get_member k ms')
made_member k f no_members ms' h = absurd (none-some ms' h)
made_member k f (member l d ms) ms' h = pick (slice_cmp nat_cmp k l) k l f d ms ms' (made_member k f ms) refl h

made_item : (n : ℕ) (f : Data → Option Data) (ds ds' : Items) → change_item n f ds ≡ Some ds' → Made f (get_item n ds')
unfolding Made
made_item n f no_items ds' h = absurd (none-some ds' h)
made_item zero f (item d ds) ds' h =
    from_map (λ e. item e ds) (f d) (λ x. Made f (get_item 0 x)) (λ e made. (d, e, made, refl)) ds' h
made_item (suc n) f (item d ds) ds' h =
    from_map (λ rest. item d rest) (change_item n f ds) (λ x. Made f (get_item (suc n) x)) (made_item n f ds) ds' h

-- and what f' made of it below is there
through : (g f f' : Data → Option Data) (found : Option Data) → Made f found
    → ((d d' : Data) → f d ≡ Some d' → Made f' (g d')) → Made f' (option_and_then g found)
unfolding Made
through g f f' found (d, d', put, is) below = rw is (below d d' put)

pub there : (p : Path) (f : Data → Option Data) (d d' : Data) → changed_at p f d ≡ Some d' → Made f (value_at p d')
unfolding Made
there [] f d d' h = (d, d', h, refl)
there (key k ∷ p) f (table ms) d' h =
    from_map table (change_member k (changed_at p f) ms) (λ x. Made f (value_at (key k ∷ p) x))
    (λ more made. through (value_at p) (changed_at p f) f (get_member k more)
    (made_member k (changed_at p f) ms more made) (there p f)) d' h
there (key k ∷ p) f (array ds) d' h = absurd (none-some d' h)
there (key k ∷ p) f (string x) d' h = absurd (none-some d' h)
there (key k ∷ p) f (integer x) d' h = absurd (none-some d' h)
there (key k ∷ p) f (float x) d' h = absurd (none-some d' h)
there (key k ∷ p) f (boolean x) d' h = absurd (none-some d' h)
there (key k ∷ p) f (datetime x) d' h = absurd (none-some d' h)
there (index i ∷ p) f (array ds) d' h =
    from_map array (change_item i (changed_at p f) ds) (λ x. Made f (value_at (index i ∷ p) x))
    (λ more made. through (value_at p) (changed_at p f) f (get_item i more)
    (made_item i (changed_at p f) ds more made) (there p f)) d' h
there (index i ∷ p) f (table ms) d' h = absurd (none-some d' h)
there (index i ∷ p) f (string x) d' h = absurd (none-some d' h)
there (index i ∷ p) f (integer x) d' h = absurd (none-some d' h)
there (index i ∷ p) f (float x) d' h = absurd (none-some d' h)
there (index i ∷ p) f (boolean x) d' h = absurd (none-some d' h)
there (index i ∷ p) f (datetime x) d' h = absurd (none-some d' h)

put_made : (e : Data) (found : Option Data) → Made (λ _. Some e) found → found ≡ Some e
unfolding Made
put_made e found (d, d', put, is) = is ∙ sym put

pub put_is_there : (p : Path) (e d d' : Data) → with_value p e d ≡ Some d' → value_at p d' ≡ Some e
put_is_there p e d d' h = put_made e (value_at p d') (there p (λ _. Some e) d d' h)
