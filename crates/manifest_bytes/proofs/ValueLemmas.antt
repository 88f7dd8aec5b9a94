-- Lemmas on the bytes of lists and of tables.
use Rattle.manifest_schema.specs.Prelude.{items_view, members_view, Value}
use Rattle.std.proofs.Common.{◌≡◌, suc, List, [], ◌∷◌, length, String, Global, Bor, ℕ, refl, ap}
use Rattle.manifest_written.specs.Written.{list_view, pairs_view}
use Rattle.manifest_written.specs.declared.written.Written.{Written}
use Rattle.manifest_bytes.specs.Encoded.{item_count, member_count}

pub item_count-view : (vs : List Value) → item_count (items_view vs) ≡ length vs
item_count-view [] = refl
item_count-view (v ∷ vs) = ap suc (item_count-view vs)

pub member_count-view : (ms : List (String Global × Value)) → member_count (members_view ms) ≡ length ms
member_count-view [] = refl
member_count-view (m ∷ ms) = ap suc (member_count-view ms)

pub item_count-list : (ws : List Written) → item_count (list_view ws) ≡ length ws
item_count-list [] = refl
item_count-list (w ∷ ws) = ap suc (item_count-list ws)

pub member_count-pairs : (es : List (Bor (List ℕ) × Written)) → member_count (pairs_view es) ≡ length es
member_count-pairs [] = refl
member_count-pairs (e ∷ es) = ap suc (member_count-pairs es)
