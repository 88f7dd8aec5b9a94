-- Lemmas on items of which some were read.
use Rattle.std.proofs.Common.{◌≡◌, ℕ, ◌<◌, ◌≤◌, List, [], ◌∷◌, ◌++◌, length, refl, ◌∙◌, arith, append_assoc}
use Rattle.toml.specs.Data.{Data, depth, Items, no_items, item, items_depth}
use Rattle.toml.specs.View.{view, items_view}
use Rattle.toml.specs.declared.value.Value.{Value}
use Rattle.manifest_bytes.specs.Encoded.{item_count, encoded, items_bytes}
use Rattle.manifest_bytes.specs.Held.{FitsValue, FitItems}

-- the values that were read are the first of some items, and the bytes of the others are left
abbrev pub ItemsLeft : Items → List Value → ℕ → List ℕ → List ℕ → Type 0
ItemsLeft ds [] deepest left rest = left ≡ items_bytes ds ++ rest
ItemsLeft (item d ds) (v ∷ vs) deepest left rest = (view v ≡ d) × (depth d ≤ deepest) × ItemsLeft ds vs deepest left
    rest
ItemsLeft no_items (v ∷ vs) deepest left rest = ⊥

-- the next item, and that it is left no more once it is read
pub record NextItem (ds : Items) (vs : List Value) (deepest : ℕ) (left rest : List ℕ) : Type 0 where
  pub d : Data
  pub after : List ℕ
  pub fits : FitsValue d
  pub bytes : left ≡ encoded d ++ after
  pub inside : depth d ≤ items_depth ds
  pub read : (v : Value) (new : List ℕ) → depth d ≤ deepest → view v ≡ d → new ≡ after →
      ItemsLeft ds (vs ++ v ∷ []) deepest new rest

pub item_next : (ds : Items) (vs : List Value) (deepest : ℕ) (left rest : List ℕ) → FitItems ds →
    ItemsLeft ds vs deepest left rest → length vs < item_count ds → NextItem ds vs deepest left rest
item_next no_items vs deepest left rest fits h some = absurd (omega arith)
item_next (item d ds) [] deepest left rest fits h some = record {
  d = d;
  after = items_bytes ds ++ rest;
  fits = fits.0;
  bytes = h ∙ append_assoc (encoded d) (items_bytes ds) rest;
  inside = omega arith;
  read = λ v new low same is. (same, low, is);
}
item_next (item e ds) (w ∷ vs) deepest left rest fits h some =
    let next = item_next ds vs deepest left rest fits.1 h.2 (omega arith) in
    record {
      d = next.d;
      after = next.after;
      fits = next.fits;
      bytes = next.bytes;
      inside = omega (arith, next.inside);
      read = λ v new low same is. (h.0, h.1, next.read v new low same is);
    }

-- where none is left
pub items_read : (ds : Items) (vs : List Value) (deepest : ℕ) (left rest : List ℕ) →
    ItemsLeft ds vs deepest left rest → item_count ds ≤ length vs →
    (items_depth ds ≤ deepest) × ((items_view vs ≡ ds) × (left ≡ rest))
items_read no_items [] deepest left rest h none = (omega arith, (refl, h))
items_read no_items (v ∷ vs) deepest left rest h none = absurd h
items_read (item d ds) [] deepest left rest h none = absurd (omega arith)
items_read (item d ds) (v ∷ vs) deepest left rest h none =
    let (deep, (same, end)) = items_read ds vs deepest left rest h.2 (omega arith) in
    (omega (arith, h.1), (rw (h.0, same) refl, end))
