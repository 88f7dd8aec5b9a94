-- What is found in a whole table, with old headers, and what is promised of it for every kind of metadata.
use Rattle.std.specs.Prelude.{◌≡◌, ◌↔◌, ◌⊎◌, Bool, true, false, List, [], ◌∷◌, ◌++◌, Option, Some, None, IsTrue, codes}
use Rattle.toml.specs.Data.{Data, table, Members, get_member, members_are_sorted}
use Rattle.manifest_schema.specs.Paths.{Path, Cause, Faults, key, under}
use Rattle.manifest_schema.specs.Findings.{Finding, found_under, unused_keys, faults_of, among, ignored_of, unused_of, FindsAll, found_paths, AllDiverge}
use Rattle.manifest_schema.specs.Slots.{without}
use Rattle.manifest_schema.specs.LeftOut.{left_out_members}
use Rattle.manifest_schema.specs.Kinds.{Kind, faulty}
use Rattle.manifest_schema.specs.Forms.{form, row_findings, left_over}
use Rattle.manifest_schema.specs.Lawful.{ReadOrFaulty}
use Rattle.manifest_schema.specs.Contents.{Manifest}
use Rattle.manifest_schema.specs.ManifestForms.{package_rows, manifest_rows}
use Rattle.manifest_schema.specs.Meaning.{well_formed, rewritten, has_header, is_headed, means}

-- without a header the package is `project`, or else its rows are those of the whole table too
abbrev pub old_findings : Kind Data → Kind Data → Members → Option Data → List Finding
old_findings K W ms (Some d) =
    row_findings (manifest_rows K W) ms
    ++ (found_under (key (codes "project")) ((form (package_rows K)).findings d)
    ++ unused_keys (without (codes "project" ∷ []) (left_over (manifest_rows K W) ms)))
old_findings K W ms None =
    row_findings (manifest_rows K W) ms
    ++ (row_findings (package_rows K) ms
    ++ unused_keys (left_over (package_rows K) (left_over (manifest_rows K W) ms)))

-- what is found in a table, by whether it has a header
abbrev pub findings_by : Kind Data → Kind Data → Bool → Members → List Finding
findings_by K W true ms = (form (manifest_rows K W)).findings (table ms)
findings_by K W false ms = old_findings K W ms (get_member (codes "project") ms)

-- WHAT IS FOUND IN A TABLE, in the order in which it is reported
abbrev pub manifest_findings : Kind Data → Kind Data → Members → List Finding
manifest_findings K W ms = findings_by K W (has_header ms) ms

-- every fault, in that order
abbrev pub manifest_faults : Kind Data → Kind Data → Members → List (Path × Cause)
manifest_faults K W ms = faults_of (manifest_findings K W ms)

-- what does not fit where that is no fault
abbrev pub manifest_ignored : Kind Data → Kind Data → Members → List (Path × Cause)
manifest_ignored K W ms = ignored_of (manifest_findings K W ms)

-- every key that nothing reads
abbrev pub manifest_unused : Kind Data → Kind Data → Members → List Path
manifest_unused K W ms = unused_of (manifest_findings K W ms)

-- THE TABLE HAS THE FAULT: it is among those that are found
abbrev pub manifest_faulty : Kind Data → Kind Data → Members → Faults
manifest_faulty K W ms = among (manifest_faults K W ms)

-- the faults of an old package: the path begins with `project` where the table has it
abbrev pub faulty_old : Kind Data → Members → Option Data → Faults
faulty_old K ms (Some d) = under (key (codes "project")) (faulty (form (package_rows K)) d)
faulty_old K ms None = faulty (form (package_rows K)) (table ms)

-- a fault by the form of a manifest, or without a header of the old package too
abbrev pub manifest_faulty_by : Kind Data → Kind Data → Bool → Members → Faults
manifest_faulty_by K W true ms p c = faulty (form (manifest_rows K W)) (table ms) p c
manifest_faulty_by K W false ms p c =
    faulty (form (manifest_rows K W)) (table ms) p c
    ⊎ faulty_old K ms (get_member (codes "project") ms) p c

-- WHAT IS PROMISED
-- a table with a fault means nothing
abbrev pub FaultyMeansNothing : Kind Data → Kind Data → Type 0
FaultyMeansNothing K W =
    (ms : Members) (p : Path) (c : Cause) (m : Manifest) → manifest_faulty K W ms p c → means K W ms m → ⊥

-- a table means a manifest or has a fault
abbrev pub AcceptedOrFaulty : Kind Data → Kind Data → Type 0
AcceptedOrFaulty K W = (ms : Members) → ReadOrFaulty (means K W ms) (manifest_faulty K W ms)

-- what is found is each fault by the form of a manifest, and without a header each of the old package, and no other
abbrev pub FindsEveryFault : Kind Data → Kind Data → Type 0
FindsEveryFault K W =
    (ms : Members) → FindsAll (manifest_findings K W ms) (manifest_faulty_by K W (has_header ms) ms)

-- no fault is found exactly if the table means a manifest
abbrev pub FaultlessIfMeant : Kind Data → Kind Data → Type 0
FaultlessIfMeant K W =
    (ms : Members) → (manifest_faults K W ms ≡ []) ↔ ((m : Manifest) × means K W ms m)

-- the table without its unused keys
abbrev pub without_unused : Kind Data → Kind Data → Members → Members
without_unused K W ms = left_out_members (manifest_unused K W ms) ms

-- where the keys of each table ascend, it means the same without them and has the same faults
abbrev pub SameWithoutUnused : Kind Data → Kind Data → Type 0
SameWithoutUnused K W =
    (ms : Members) → IsTrue (members_are_sorted ms) →
    ((m : Manifest) → means K W (without_unused K W ms) m ↔ means K W ms m)
    × ((p : Path) (c : Cause) → manifest_faulty K W (without_unused K W ms) p c ↔ manifest_faulty K W ms p c)

-- where the keys of each table ascend, what is found stands at paths that diverge: each place is reported once
abbrev pub FindsEachOnce : Kind Data → Kind Data → Type 0
FindsEachOnce K W =
    (ms : Members) → IsTrue (members_are_sorted ms) →
    AllDiverge (found_paths (manifest_findings K W ms))

-- nothing is found in what is written of a well-formed manifest with a package or a workspace
abbrev pub FindsNothingWritten : Kind Data → Kind Data → Type 0
FindsNothingWritten K W =
    (m : Manifest) → well_formed K W m → is_headed m ≡ true →
    manifest_findings K W (rewritten K W m) ≡ []

-- nor in the rewritten table of an accepted table
abbrev pub FindsNothingRewritten : Kind Data → Kind Data → Type 0
FindsNothingRewritten K W =
    (ms : Members) (m : Manifest) → means K W ms m → manifest_findings K W (rewritten K W m) ≡ []

-- where the keys of each table ascend, an accepted table is rewritten as it is without its unused keys
abbrev pub RewrittenWithoutUnused : Kind Data → Kind Data → Type 0
RewrittenWithoutUnused K W =
    (ms : Members) (m n : Manifest) → IsTrue (members_are_sorted ms) →
    means K W ms m → means K W (without_unused K W ms) n
    → rewritten K W m ≡ rewritten K W n
