-- What is written of a manifest: each row of its form and nothing else, so that nothing is found in it.
use Rattle.manifest_schema.specs.Prelude.{Kind, Data, IsSound, WritesEachRow, manifest_rows, rewritten, FindsNothingWritten, FindsNothingRewritten, RewrittenWithoutUnused}
use Rattle.std.proofs.Common.{ap}
use Rattle.manifest_schema.proofs.Forms.RowsWritten.{writes_each_row}
use Rattle.manifest_schema.proofs.Forms.ManifestLaws.{manifest_distinct, manifest_sound}
use Rattle.manifest_schema.proofs.Meaning.MeaningLaws.{headers, means_one, written_is_read, accepted_is_well_formed}
use Rattle.manifest_schema.proofs.Findings.UnusedLaws.{same_without_unused}

pub manifest_by_rows : (K W : Kind Data) → WritesEachRow (manifest_rows K W)
manifest_by_rows K W = writes_each_row (manifest_rows K W) (manifest_distinct K W)

module _ {K W : Kind Data} (k : IsSound K) (w : IsSound W) where
  pub finds_nothing_written : FindsNothingWritten K W
  finds_nothing_written m good headed =
      rw (headers K W (rewritten K W m) m (written_is_read k w m good), headed) ((manifest_sound K W k w).back m good).1

  pub finds_nothing_rewritten : FindsNothingRewritten K W
  finds_nothing_rewritten ms m a =
      let (good, headed) = accepted_is_well_formed k w ms m a in
      finds_nothing_written m good headed

  pub rewritten_without_unused : RewrittenWithoutUnused K W
  rewritten_without_unused ms m n s a b =
      ap (rewritten K W) (means_one k w ms m n a (((same_without_unused k w ms s).0 n).0 b))
