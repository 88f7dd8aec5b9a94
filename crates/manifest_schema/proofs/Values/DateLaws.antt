-- What is read of valid date-times keeps valid ones, and is written with valid ones.
use Rattle.manifest_schema.specs.Prelude.{IfSome, Data, table, Members, get_member, form, Manifest, profiles_rows, package_rows, workspace_rows, manifest_rows, old_package, means_by, has_header, raw_metadata, HasValidDates, KeepsValidDates, MeantDatesAreValid, WrittenDatesAreValid}
use Rattle.std.proofs.Common.{◌≡◌, Bool, true, false, Option, Some, None, refl, sym, ◌∙◌, codes, subst}
use Rattle.manifest_schema.proofs.Tables.LeftOutLaws.{entry_found}
use Rattle.manifest_schema.proofs.Values.ScalarLaws.{dates_by_scalars, inside_have, manifest_has, Reads, row_reads, profiles_turn}

-- WHAT IS READ: metadata, which is the value itself, and profiles
tree_dated : Reads HasValidDates raw_metadata HasValidDates
tree_dated d x v m = subst HasValidDates (m.1.0 ∙ m.2) v

profiles_dated : Reads HasValidDates (form profiles_rows) (λ p. HasValidDates ((form profiles_rows).written p))
profiles_dated = profiles_turn dates_by_scalars dates_by_scalars (λ d x v m. subst HasValidDates m.0 v)

package_dated : Reads HasValidDates (form (package_rows raw_metadata)) (λ p. IfSome p.metadata HasValidDates)
unfolding package_rows
package_dated = row_reads dates_by_scalars raw_metadata tree_dated (package_rows raw_metadata) (λ p. p.metadata)
    (codes "metadata") (λ ms p m. assumption)

workspace_dated : Reads HasValidDates (form (workspace_rows raw_metadata)) (λ w. IfSome w.metadata HasValidDates)
unfolding workspace_rows
workspace_dated = row_reads dates_by_scalars raw_metadata tree_dated (workspace_rows raw_metadata) (λ w. w.metadata)
    (codes "metadata") (λ ms w m. assumption)

manifest_dated : Reads HasValidDates (form (manifest_rows raw_metadata raw_metadata)) KeepsValidDates
unfolding manifest_rows
manifest_dated d m v h =
    let rows = manifest_rows raw_metadata raw_metadata in
    record {
      «package» = row_reads dates_by_scalars (form (package_rows raw_metadata)) package_dated rows (λ m. m.«package»)
          (codes "package") (λ ms m h. assumption) d m v h;
      workspace = row_reads dates_by_scalars (form (workspace_rows raw_metadata)) workspace_dated rows
          (λ m. m.workspace) (codes "workspace") (λ ms m h. assumption) d m v h;
      profile = row_reads dates_by_scalars (form profiles_rows) profiles_dated rows (λ m. m.profile) (codes "profile")
          (λ ms m h. assumption) d m v h;
    }

-- what an old package is read from
old_dated : (ms : Members) (o : Option Data) → get_member (codes "project") ms ≡ o → HasValidDates (table ms)
    → HasValidDates (old_package ms o)
old_dated ms None e v = v
old_dated ms (Some d) e v = inside_have dates_by_scalars ms v (codes "project") d (entry_found (codes "project") d ms e)

meant_by : (headed : Bool) (ms : Members) (m : Manifest) → means_by raw_metadata raw_metadata headed ms m
    → HasValidDates (table ms) → KeepsValidDates m
meant_by true ms m is v = manifest_dated (table ms) m v is
meant_by false ms m (n, p, reads, old, e) v =
    let kept_by = manifest_dated (table ms) n v reads in
    let found = old_dated ms (get_member (codes "project") ms) refl v in
    subst KeepsValidDates (sym e) (record {
      «package» = package_dated _ p found old;
      workspace = kept_by.workspace;
      profile = kept_by.profile;
    })

pub meant_dates_are_valid : MeantDatesAreValid
meant_dates_are_valid ms m is v = meant_by (has_header ms) ms m is v

pub written_dates_are_valid : WrittenDatesAreValid
written_dates_are_valid m h = manifest_has dates_by_scalars raw_metadata raw_metadata m h.package h.workspace h.profile
