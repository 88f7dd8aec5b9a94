-- What the contracts of single steps and the laws of impls cite. It is not needed to read the meaning of a table.
use Rattle.std.specs.Prelude.{◌≡◌, ℕ, suc, List, [], ◌∷◌, Option, Some, None, refl}
use Rattle.toml.specs.Data.{Members}
use Rattle.manifest_schema.specs.Paths.{Text}
use Rattle.manifest_schema.specs.Slots.{Spellings, only, both, at}
use Rattle.manifest_schema.specs.Kinds.{nothing, unread}
use Rattle.manifest_schema.specs.Forms.{Rows, ◌⨾◌}
use Rattle.manifest_schema.specs.Lawful.{IsSound}

-- SPELLINGS, from a word and perhaps a second word
abbrev pub spellings_of : Text → Option Text → Spellings
spellings_of k None = only k
spellings_of k (Some l) = both k l

-- PART OF A FORM, for a record that is read row by row
-- the first n rows fit
abbrev pub first_fit : {A : Type 0} → ℕ → Rows A → Members → A → Type 0
first_fit (suc n) (r ⨾ rs) ms x = r.need.meets (at r.spellings ms) (r.get x) × first_fit n rs ms x
first_fit _ _ ms x = Unit {0}

-- the list is not the empty one
abbrev HasElement : {A : Type 0} → List A → Type 0
HasElement [] = ⊥
HasElement (x ∷ xs) = Unit {0}

has_element : {A : Type 0} (xs : List A) → HasElement xs → xs ≡ [] → ⊥
has_element xs h e = rw e at h

-- THE KIND THAT READS NOTHING satisfies the laws: each value has its fault
pub nothing_sound : IsSound nothing
nothing_sound = record {
  single = λ d x y a b. absurd a;
  decided = λ d. (λ e. absurd (has_element _ tt e), λ a. absurd a.1);
  well = λ d x a. a;
  back = λ x g. absurd g;
  tidy = λ d s. (λ x. (λ h. h, λ h. h), refl);
  inside = λ d. refl;
  once = λ d s. (tt, tt);
}

-- THE KIND THAT LOOKS AT NO VALUE satisfies them too: no value has a fault
pub unread_sound : IsSound unread
unread_sound = record {
  single = λ d x y a b. refl;
  decided = λ d. (λ e. (tt, tt), λ a. refl);
  well = λ d x a. tt;
  back = λ x g. (tt, refl);
  tidy = λ d s. (λ x. (λ h. h, λ h. h), refl);
  inside = λ d. refl;
  once = λ d s. tt;
}
