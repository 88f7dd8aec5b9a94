use Rattle.manifest_schema.specs.Prelude.{Global, Bor, map_push, append-nil, Text}
use Rattle.std.proofs.Common.{◌≡◌, List, ◌∷◌, ◌++◌, [], map, string_bytes, ap, ◌∙◌, String, subst, true, false, refl}
use Rattle.std.specs.Map.Iter.{deref}
use Rattle.std.proofs.lemmas.Map.Iter.{rest_so_far, rest_more, rest_all}
use Rattle.std.proofs.lemmas.List.{map-append}
use Rattle.manifest_value.proofs.CallLemmas.{all_zip-push}
use Rattle.manifest_completion.specs.Listings.{joined, is_memory_fault}
use Rattle.manifest_completion.specs.Answered.{answer_of}
use Rattle.manifest_completion.specs.Asking.{IsAllowedAnswer}
use Rattle.manifest_completion.proofs.AskLemmas.{Answered, entries_all, entries_stop}
use Rattle.manifest_completion.proofs.ask.ask_entries.Goals as goal

abbrev text_of : Bor (String Global) → Text
text_of x = string_bytes x.now

map_deref : (xs : List (Bor (String Global))) → map string_bytes (map deref xs) ≡ map text_of xs
map_deref [] = refl
map_deref (x ∷ xs) = ap (λ (ys : List Text). text_of x ∷ ys) (map_deref xs)

-- the names, where xs were yielded and t is left
split_names : (keys : List (String Global)) (xs : List (Bor (String Global))) (t : List (String Global))
    → keys ≡ map deref xs ++ t → map string_bytes keys ≡ map text_of xs ++ map string_bytes t
split_names keys xs t h = ap (map string_bytes) h ∙ map-append string_bytes (map deref xs) t
    ∙ ap (λ (ys : List Text). ys ++ map string_bytes t) (map_deref xs)

pub loop-name-preserved : goal.loop-name-preserved
loop-name-preserved g c =
    let allows = g.FS.AbstractFilesystem.allows c.args.fs.now in let d = c.args.folder.now in
    let n = string_bytes c.in-Some.name.now in let a = answer_of c.ask-answer.result in
    let e : c.as_str-in-loop-name.result.now ≡ joined d n =
    cc (c.as_str-in-loop-name.ensures.value, c.in_ok-path.ensures, c.as_str.ensures.value) in
    let ok : IsAllowedAnswer allows (joined d n) a = subst (λ p. IsAllowedAnswer allows p a) e c.ask-answer.ensures in
    let found : is_memory_fault a ≡ false = cc (c.is_memory_fault-is_last.ensures, c.if-is_last.false) in
    rw (
      map_push text_of c.loop-name.yielded c.in-Some.name,
      c.in_ok-push.ensures.items,
      map_push answer_of
          c.loop-name.entries.items c.ask-answer.result,
    )
    (all_zip-push (Answered allows d) (map text_of c.loop-name.yielded) (map answer_of c.loop-name.entries.items) n a
    c.loop-name.invariant (ok, found))

pub returns-then-is_last : goal.returns-then-is_last
returns-then-is_last g c =
    let allows = g.FS.AbstractFilesystem.allows c.args.fs.now in let d = c.args.folder.now in
    let n = string_bytes c.in-Some.name.now in let a = answer_of c.ask-answer.result in
    let e : c.as_str-in-loop-name.result.now ≡ joined d n =
    cc (c.as_str-in-loop-name.ensures.value, c.in_ok-path.ensures, c.as_str.ensures.value) in
    let ok : IsAllowedAnswer allows (joined d n) a = subst (λ p. IsAllowedAnswer allows p a) e c.ask-answer.ensures in
    let lost : is_memory_fault a ≡ true = cc (c.is_memory_fault-is_last.ensures, c.if-is_last.true) in
    let all = rest_so_far deref c.loop-name.yielded c.into_iter-name-iterator.result c.loop-name.name-iterator
    c.loop-name.yielded_by in
    let step = rest_more deref c.loop-name.name-iterator c.next.new.self c.next.result c.in-Some.name c.in-Some.is
    c.next.ensures.steps in
    let keys : c.args.names.now.keys ≡ map deref c.loop-name.yielded ++ c.in-Some.name.now ∷ c.next.new.self =
    cc (c.into_iter-name-iterator.ensures.into_iter_gives, c.iter-name-items.ensures.rest) in
    rw (
      split_names c.args.names.now.keys c.loop-name.yielded (c.in-Some.name.now ∷ c.next.new.self) keys,
      c.in_ok-push.ensures.items,
      map_push answer_of c.loop-name.entries.items c.ask-answer.result,
    )
    (entries_stop allows d (map text_of c.loop-name.yielded) (map answer_of c.loop-name.entries.items) n
    (map string_bytes c.next.new.self) a c.loop-name.invariant ok lost)

pub returns : goal.returns
returns g c =
    let allows = g.FS.AbstractFilesystem.allows c.args.fs.now in let d = c.args.folder.now in
    let all = rest_so_far deref c.loop-name.yielded c.into_iter-name-iterator.result c.loop-name.name-iterator
    c.loop-name.yielded_by in
    let done = rest_all deref c.loop-name.name-iterator c.next.new.self c.next.result c.in-None.is
    c.next.ensures.steps in
    let keys : c.args.names.now.keys ≡ map deref c.loop-name.yielded ++ [] =
    cc (c.into_iter-name-iterator.ensures.into_iter_gives, c.iter-name-items.ensures.rest) in
    rw (split_names c.args.names.now.keys c.loop-name.yielded [] keys, append-nil)
    (entries_all allows d (map text_of c.loop-name.yielded) (map answer_of c.loop-name.entries.items)
    c.loop-name.invariant)
