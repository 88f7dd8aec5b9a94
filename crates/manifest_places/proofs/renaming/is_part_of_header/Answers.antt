use Rattle.std.proofs.Common.{sym, ap, ◌∙◌, arith, rules}
use Rattle.std.proofs.lemmas.List.{map-append, length-map}
use Rattle.manifest_places.specs.Paths.{step_of, path_of}
use Rattle.manifest_places.proofs.renaming.is_part_of_header.Goals as goal

pub returns : goal.returns
returns c good =
    let base = c.split_at.result.0.now in
    let last = c.split_at.result.1.now in record {
      more = c.in-Some.ensures.0;
      base = path_of base;
      last = path_of last;
      leads = ap path_of (sym c.as_slice.ensures.value) ∙ c.in-Some.ensures.1;
      ends = ap path_of c.split_at.ensures.by_index.0 ∙ map-append step_of base last;
      one = rw (length-map last step_of) (search rules);
      begin = rw (sym c.in-Some-key_start.ensures) (omega arith);
      end = omega arith;
      whole = rw (sym c.requires, sym c.in-Some-key_start.ensures, sym c.in-Some-part_of.ensures.1, sym c.skip_ws.ensures.rest) (c.in_ok-reads_as.ensures c.if-not-branch.false);
      alone = rw (sym c.in-Some-part_of-2.ensures.1) (c.in_ok-reads_as-2.ensures c.if-not-branch-2.false);
      solid = search rules;
    }
