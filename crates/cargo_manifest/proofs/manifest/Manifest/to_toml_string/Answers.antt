use Rattle.manifest_schema.specs.Prelude.{Members, members_depth, table_view, tree_of, rewritten}
use Rattle.std.proofs.Common.{◌≡◌, ◌≤◌, Some, string_bytes, subst}
use Rattle.toml.specs.Parse.{parse_document}
use Rattle.manifest_schema.proofs.Values.KindLaws.{tree_sound}
use Rattle.manifest_schema.proofs.Meaning.MeaningLaws.{written_means_the_same}
use Rattle.cargo_manifest.specs.Whole.{manifest_of}
use Rattle.cargo_manifest.proofs.manifest.Manifest.to_toml_string.Goals as goal

pub returns-in-Ok-clause-reads_as_it : goal.returns-in-Ok-clause-reads_as_it
returns-in-Ok-clause-reads_as_it g c = λ good headed deep.
    let m = manifest_of g.P.Schema.kind g.W.Schema.kind g.P.Schema.content g.W.Schema.content c.args.self.now in
    let ms : Members = rewritten (tree_of g.P.Schema.kind) (tree_of g.W.Schema.kind) m in
    let same : table_view c.in_ok-table.table ≡ ms = c.in_ok-table.ensures in
    let text = string_bytes c.in-Ok.text in
    let back = subst (λ (ns : Members). members_depth ns ≤ 80 → parse_document text ≡ Some ns) same
    c.in-Ok.ensures.reads_back in
    record {
      document = ms;
      parsed = back deep;
      meant = written_means_the_same (tree_sound g.met.P.Schema.lawful)
          (tree_sound g.met.W.Schema.lawful) m good headed;
    }
