-- The words of std, of `toml` and of the schema that definitions, contracts and proofs cite, passed on from one place.
-- Declares nothing.
pub use Rattle.std.proofs.Math.Bool.{or-false}
pub use Rattle.std.proofs.Math.ListN.{replicate}
pub use Rattle.std.proofs.Math.Path.{fun_ext}
pub use Rattle.std.proofs.lemmas.Bool.{and_parts, cases_Bool, false≢true, not-true, or_cases, or_parts, or_right}
pub use Rattle.std.proofs.lemmas.Bool.Decides.{nat_tests}
pub use Rattle.std.proofs.lemmas.Cmp.{nat_list_cmp_total}
pub use Rattle.std.proofs.lemmas.Grind.{common_steps}
pub use Rattle.std.proofs.lemmas.List.{append-nil, append_assoc, length-map, map_push, take-append-drop}
pub use Rattle.std.proofs.lemmas.List.Folds.{list_any-append}
pub use Rattle.std.proofs.lemmas.Map.Text.{btree_map_updates_str, is_eq-slice_cmp}
pub use Rattle.std.proofs.lemmas.Option.{none-some, same_Some}
pub use Rattle.std.proofs.lemmas.Result.{IfErr-weaker, IfOk-weaker, on_ok_weaker}
pub use Rattle.std.proofs.lemmas.Slice.Eq.{bytes_eq-Decides}
pub use Rattle.std.specs.BTreeMap.{BTreeMap, get_by, get_by_text, insert_entry, values}
pub use Rattle.std.specs.BTreeSet.{BTreeSet}
pub use Rattle.std.specs.Borrow.{Bor}
pub use Rattle.std.specs.Cmp.Derive.{both_true}
pub use Rattle.std.specs.Cmp.Lexicographic.{slice_cmp}
pub use Rattle.std.specs.Fmt.{HasWritten, IsPlainFormatter}
pub use Rattle.std.specs.Fn.{FnReturnsAt}
pub use Rattle.std.specs.Io.KnownBytes.{Appends, Keeps}
pub use Rattle.std.specs.IoError.{error_kind}
pub use Rattle.std.specs.List.{AllByRecursion, AllZip, Contains, ends_with, filter, flat_map, list_all, list_any, zip}
pub use Rattle.std.specs.Map.{keys_of, lookup}
pub use Rattle.std.specs.Option.{IfSome, is_some, option_copied, option_or}
pub use Rattle.std.specs.Ordering.{is_eq, is_lt, match_ordering, nat_cmp, ordering_reverse}
pub use Rattle.std.specs.Path.{path_bytes}
pub use Rattle.std.specs.Slice.Iter.{iter_rest}
pub use Rattle.std.specs.Str.{bytes_eq}
pub use Rattle.std.specs.String.{string_cmp}
pub use Rattle.std.specs.declared.alloc.AllocError.{AllocError}
pub use Rattle.std.specs.declared.alloc.Global.{Global}
pub use Rattle.std.specs.declared.cmp.Ordering.{Ordering}
pub use Rattle.std.specs.declared.cmp.Ordering.TheVariants.{Less}
pub use Rattle.std.specs.declared.io.ErrorKind.{ErrorKind}
pub use Rattle.std.specs.declared.io.ErrorKind.TheVariants.{NotFound, Other, OutOfMemory}
pub use Rattle.toml.proofs.Blanks.{join}
pub use Rattle.toml.proofs.Views.{with_last}
pub use Rattle.toml.specs.Data.{Data, Items, Members, array, boolean, datetime, float, get_item, get_member, has_valid_dates, integer, is_before, is_sorted, item, items_are_sorted, items_depth, items_have_valid_dates, member, members_are_sorted, members_depth, members_have_valid_dates, no_items, no_members, same_key, string, table}
pub use Rattle.toml.specs.Errors.{IsMemory, IsWithin}
pub use Rattle.toml.specs.Tables.{Expression, array_table, key_value, std_table}
pub use Rattle.toml.specs.Text.{IsDocumentText, IsValueText}
pub use Rattle.toml.specs.View.{array_view, items_view, members_view, table_view, view}
pub use Rattle.toml.specs.declared.value.Value.{Value}
pub use Rattle.manifest_schema.specs.Choices.{edition, edition_text, level, level_text, resolver, status, strip, strip_meaning}
pub use Rattle.manifest_schema.specs.Contents.{Dependency, DependencyDetail, Edition, InheritedDependencyDetail, Lint, Manifest, MaybeInheritedLintsSet, Package, Product, StringOrBool, Target, Workspace, WorkspacePackage, a_flag, a_text, allow, by_workspace, deny, detailed, e2015, e2021, forbid, lint_config, lint_level, no_status, publish_flag, registries, simple, strip_debuginfo, strip_none, strip_symbols, warn}
pub use Rattle.manifest_schema.specs.Dates.{HasValidDates, KeepsValidDates, MeantDatesAreValid, WrittenDatesAreValid, raw_metadata}
pub use Rattle.manifest_schema.specs.Defaults.{empty_manifest, named}
pub use Rattle.manifest_schema.specs.ForProofs.{first_fit, spellings_of, nothing_sound, unread_sound}
pub use Rattle.manifest_schema.specs.Findings.{Finding, FindsAll, IsFaultless, among, fault, faults_of, first_found, foremost, found_under, found_here, ignored, ignored_of, leniently, none_of, unused, unused_keys, unused_of, found_at, found_paths, Diverge, DivergeFrom, AllDiverge, AllBegin}
pub use Rattle.manifest_schema.specs.Found.{AcceptedOrFaulty, FaultlessIfMeant, FaultyMeansNothing, FindsEveryFault, SameWithoutUnused, faulty_old, findings_by, manifest_faults, manifest_findings, manifest_ignored, manifest_unused, old_findings, manifest_faulty, manifest_faulty_by, without_unused, FindsEachOnce, FindsNothingWritten, FindsNothingRewritten, RewrittenWithoutUnused}
pub use Rattle.manifest_schema.specs.Former.{AllValues, ManifestLeavesDefaults, OldWrittenIsRead, former_written}
pub use Rattle.manifest_schema.specs.Forms.{Fields, Rows, differ, distinct, findings_beside, form_findings, left_beside, left_over, row_findings, fits, fits_beside, form, gets, good_beside, good_rows, is_closed, no_more, none_named, others, spell, spelled, written_rows, ◌⨾◌, holds_beside, holds}
pub use Rattle.manifest_schema.specs.Kinds.{Entries, Inheritable, Kind, choice, choice_findings, entry_findings, entry_floats, faulty, flag, float_findings, good_entries, good_inh, good_items, good_split, has_entry, inh, inherited, inherits, is_text, item_findings, item_floats, raw, list_of, local, map_of, nothing, plain, plain_items, plain_members, reads_choice, reads_entries, reads_inh, reads_items, reads_raw, reads_split, split, text, tree_of, truth, unread, whole, within, written_entries, written_items, written_split}
pub use Rattle.manifest_schema.specs.Lawful.{AlikeBut, AreSound, Decided, FindsSoundly, IsBuilt, IsClean, IsDefault, IsDiverging, IsLawful, IsPlain, IsSlotSorted, IsSound, IsSoundNeed, IsTidy, IsTotal, ReadOrFaulty, UnusedIfNoRow, WritesEachRow, but_unused, slot_findings, slot_key, unused_in}
pub use Rattle.manifest_schema.specs.LeftOut.{ends_here, from_step, left_out, left_out_items, left_out_members, same_step}
unfoldable pub use Rattle.manifest_schema.specs.ManifestForms.{
  manifest_rows,
  package_rows,
  workspace_package_rows,
  workspace_rows,
}
pub use Rattle.manifest_schema.specs.Meaning.{AcceptedIsWellFormed, MeansOne, RewrittenMeansTheSame, RewrittenTwiceIsOnce, SameExactly, SameWrittenIsSame, WrittenIsRead, WrittenMeansTheSame, has_header, is_headed, means, means_by, old_package, reads_manifest, rewritten, well_formed, written_manifest}
pub use Rattle.manifest_schema.specs.Needs.{Need, clash_found, default, free_findings, good_some, is_empty, lenient_default, lenient_findings, lenient_optional, meets_default, meets_lenient, meets_optional, meets_required, missing_found, never, optional, required, required_findings, written_some, written_unless}
pub use Rattle.manifest_schema.specs.PartForms.{codegen, dependency, dependency_table, lint, publish, text_or_flag, texts}
unfoldable pub use Rattle.manifest_schema.specs.PartForms.{
  badge_rows,
  badges_rows,
  detailed_rows,
  inherited_rows,
  lint_rows,
  lints_rows,
  maintenance_rows,
  platform_rows,
  product_rows,
  profile_rows,
  profiles_rows,
}
pub use Rattle.manifest_schema.specs.PathTexts.{is_bare, is_bare_key, key_text, next_text, path_text, quoted_byte}
pub use Rattle.manifest_schema.specs.Paths.{Cause, Faults, Path, Step, Text, under, holds_float, index, at_value, key, metadata_fault, missing, no_fault, not_a_choice, not_true, out_of_range, two_spellings, wrong_kind}
pub use Rattle.manifest_schema.specs.Pins.{FaultyByEntries, FaultyByFloats, FaultyByItems, FaultyByRows, FaultyBySlot, FaultyIfRequired, FaultyUnlessInherited, Ignores, IgnoresBadgesAlone, IgnoresNothing, InheritedUnused, NeverFaulty, OldTopUnused, ReadsOnly, ListsWords, UnusedByEntries, UnusedByItems, clash_at, faulty_entry, faulty_free, faulty_item, faulty_required, float_at, float_in, is_known_old, is_unused_key, missing_at, unfit_beside}
pub use Rattle.manifest_schema.specs.Slots.{Slot, Spellings, absent, at, both, clash, first, is_among, one, only, put, slot, slot_of_two, underscored, without}
unfoldable pub use Rattle.manifest_schema.specs.Slots.{put_some}
