-- What completion answers, by the definitions: the completed targets, or a refusal.
use Rattle.manifest_schema.specs.Prelude.{error_kind, OutOfMemory, Text}
use Rattle.std.specs.Prelude.{◌≡◌, ◌⊎◌, map, codes, option_map, string_bytes, Result, Ok, Err}
use Rattle.manifest_parts.specs.Parts.{edition_content, text_or_flag_content, inh_content}
use Rattle.manifest_parts.specs.Records.{product_content}
use Rattle.manifest_fault.specs.declared.error.Error.{Error}
use Rattle.manifest_fault.specs.declared.error.Error.TheVariants.{Io, Other, Memory}
use Rattle.manifest_completion.specs.declared.completion.DeclaredTargets.{DeclaredTargets}
use Rattle.manifest_completion.specs.declared.completion.CompletedTargets.{CompletedTargets}
use Rattle.manifest_completion.specs.Listings.{Answer}
use Rattle.manifest_completion.specs.Completed.{PackageTargets, Completion, completed_to, refused, no_library, completed_targets, asked_targets, ByOneMap}
use Rattle.manifest_completion.specs.Stored.{stored_map}

abbrev pub declared_content : DeclaredTargets → PackageTargets
declared_content t = record {
  name = t.name.now;
  edition = option_map (inh_content edition_content) t.edition.now;
  autolib = option_map (λ b. b) t.autolib;
  autobins = option_map (λ b. b) t.autobins;
  autoexamples = option_map (λ b. b) t.autoexamples;
  autotests = option_map (λ b. b) t.autotests;
  autobenches = option_map (λ b. b) t.autobenches;
  build = option_map text_or_flag_content t.build.now;
  lib = option_map product_content t.lib.now;
  bin = map product_content t.bin.now;
  example = map product_content t.example.now;
  test = map product_content t.test.now;
  bench = map product_content t.bench.now;
}

-- the declared targets, with the completed ones in their place
abbrev pub completed_content : PackageTargets → CompletedTargets → PackageTargets
completed_content t c = record t {
  build = option_map text_or_flag_content c.build;
  lib = option_map product_content c.lib;
  bin = map product_content c.bin.items;
  example = map product_content c.example.items;
  test = map product_content c.test.items;
  bench = map product_content c.bench.items;
}

-- REFUSALS
abbrev pub library_text : Text
library_text = codes "can't find library, rename file to `src/lib.rs` or specify lib.path"

-- WHAT COMPLETING ANSWERS is the completion by one map of answers that the filesystem allows; or memory ran out
abbrev pub TargetsComeTo :
    (Text → Answer → Type 0) → PackageTargets → Completion PackageTargets → Type 0
TargetsComeTo allows t c = ByOneMap allows (asked_targets t) (completed_targets t) c

abbrev pub TargetsRefused : (Text → Answer → Type 0) → PackageTargets → Error → Type 0
TargetsRefused allows t (Io e) = TargetsComeTo allows t (refused (error_kind e))
TargetsRefused allows t (Other s) =
    TargetsComeTo allows t no_library × (string_bytes s ≡ library_text)
TargetsRefused allows t (Memory e) = Unit {0}
TargetsRefused allows t _ = ⊥

abbrev pub TargetsCompleted :
    (Text → Answer → Type 0) → PackageTargets → Result CompletedTargets Error → Type 0
TargetsCompleted allows t (Ok c) = TargetsComeTo allows t (completed_to (completed_content t c))
TargetsCompleted allows t (Err e) = TargetsRefused allows t e

-- WHAT IT ANSWERS where one answer is stored for each path text
-- the refusal that this completion is; or memory ran out, for a listing or for what is made
abbrev pub IsRefusalOf : {A : Type 0} → Completion A → Error → Type 0
IsRefusalOf c (Io e) = (c ≡ refused (error_kind e)) ⊎ (error_kind e ≡ OutOfMemory)
IsRefusalOf c (Other s) = (c ≡ no_library) × (string_bytes s ≡ library_text)
IsRefusalOf c (Memory e) = Unit {0}
IsRefusalOf c _ = ⊥

-- the targets that the map of what is stored completes them to, or its refusal
abbrev pub CompletedAsStored :
    (Text → Answer) → PackageTargets → Result CompletedTargets Error → Type 0
CompletedAsStored stored t (Ok c) =
    completed_targets t (stored_map stored) ≡ completed_to (completed_content t c)
CompletedAsStored stored t (Err e) = IsRefusalOf (completed_targets t (stored_map stored)) e
