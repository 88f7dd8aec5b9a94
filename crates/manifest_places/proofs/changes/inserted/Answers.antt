use Rattle.std.proofs.Common.{◌≡◌, true, false, is_some, string_bytes, sym, ◌∙◌}
use Rattle.std.specs.Map.{lookup}
use Rattle.std.specs.BTreeMap.{is_at}
use Rattle.toml.specs.View.{view}
use Rattle.manifest_places.proofs.ChangeLemmas.{at_text, with_entry, no_second_entry}
use Rattle.manifest_places.proofs.changes.inserted.Goals as goal

pub returns-then-contains_key : goal.returns-then-contains_key
returns-then-contains_key c =
    let k = string_bytes c.args.key in
    let es = c.args.table.now.entries in
    let some : is_some (lookup (is_at (at_text k)) es)
    ≡ true = sym (rw c.as_str.ensures.value at c.contains_key.ensures) ∙ c.if-contains_key.true in
    no_second_entry k (view c.args.value) es some

pub returns-in-Ok-None : goal.returns-in-Ok-None
returns-in-Ok-None c =
    let k = string_bytes c.args.key in
    let es = c.args.table.now.entries in
    let none : is_some (lookup (is_at (at_text k)) es)
    ≡ false = sym (rw c.as_str.ensures.value at c.contains_key.ensures) ∙ c.if-contains_key.false in
    rw c.in-Ok-None.ensures.entries (with_entry c.args.key c.args.value es none)

pub returns-in-Ok-Some : goal.returns-in-Ok-Some
returns-in-Ok-Some c =
    let k = string_bytes c.args.key in
    let es = c.args.table.now.entries in
    let none : is_some (lookup (is_at (at_text k)) es)
    ≡ false = sym (rw c.as_str.ensures.value at c.contains_key.ensures) ∙ c.if-contains_key.false in
    rw c.in-Ok-Some.ensures.entries (with_entry c.args.key c.args.value es none)
