use Rattle.manifest_schema.specs.Prelude.{append_assoc, iter_rest}
use Rattle.std.proofs.Common.{◌≡◌, ◌++◌, ◌∷◌, [], None, option_map, ap, sym, ◌∙◌}
use Rattle.manifest_answers.specs.Given.{texts, AreNames, AreListings, folder_at, listed_answer}
use Rattle.manifest_answers.proofs.GivenLemmas.{listings_under, refuses_more, one_listed, was_there, was_not_there}
use Rattle.manifest_answers.proofs.folders.GivenFolders.new.Goals as goal

pub returns-in_default-clause-refused : goal.returns-in_default-clause-refused
returns-in_default-clause-refused c = λ h.
    let (done, front, are, answers) = c.loop-folder.invariant in
    let f = c.in-Some.folder.now in
    let left = iter_rest c.next.new.self.iter in
    let whole : c.args.folders.now ≡ left ++ f ∷ done = front ∙ ap (λ fs. fs ++ done) c.in-Some.ensures.steps
    ∙ append_assoc left (f ∷ []) done in
    let last : AreListings (f ∷ done) = listings_under left (f ∷ done) (rw whole at h) in
    c.in_default.ensures.cases.0 last.0.0

pub returns-in-Err-clause-refused : goal.returns-in-Err-clause-refused
returns-in-Err-clause-refused c =
    let (done, front, are, answers) = c.loop-folder.invariant in
    let f = c.in-Some.folder.now in
    let left = iter_rest c.next.new.self.iter in
    let whole : c.args.folders.now ≡ left ++ f ∷ done = front ∙ ap (λ fs. fs ++ done) c.in-Some.ensures.steps
    ∙ append_assoc left (f ∷ []) done in
    let under : AreListings c.args.folders.now → AreNames (texts f.names.now) =
    λ h. (listings_under left (f ∷ done) (rw whole at h)).0.1 in
    refuses_more (AreNames (texts f.names.now)) (AreListings c.args.folders.now) c.in-Err.refusal under
    c.in-Err.ensures.refused

pub returns-then-is_some-clause-refused : goal.returns-then-is_some-clause-refused
returns-then-is_some-clause-refused c = λ h.
    let (done, front, are, answers) = c.loop-folder.invariant in
    let f = c.in-Some.folder.now in
    let left = iter_rest c.next.new.self.iter in
    let whole : c.args.folders.now ≡ left ++ f ∷ done = front ∙ ap (λ fs. fs ++ done) c.in-Some.ensures.steps
    ∙ append_assoc left (f ∷ []) done in
    let last : AreListings (f ∷ done) = listings_under left (f ∷ done) (rw whole at h) in
    let named : c.in-Ok.path.now ≡ f.path.now = c.in-Ok.ensures.cases.0 in
    let had = ap (option_map listed_answer) c.in_ok-had.ensures.old ∙ answers c.in-Ok.path.now in
    was_there c.in_ok-had.had (folder_at done c.in-Ok.path.now) had (sym c.if-is_some.ensures) (rw named last.1)

pub loop-folder-preserved : goal.loop-folder-preserved
loop-folder-preserved c =
    let (done, front, are, answers) = c.loop-folder.invariant in
    let f = c.in-Some.folder.now in
    let left = iter_rest c.next.new.self.iter in
    let whole : c.args.folders.now ≡ left ++ f ∷ done = front ∙ ap (λ fs. fs ++ done) c.in-Some.ensures.steps
    ∙ append_assoc left (f ∷ []) done in
    let named : c.in-Ok.path.now ≡ f.path.now = c.in-Ok.ensures.cases.0 in
    let had = ap (option_map listed_answer) c.in_ok-had.ensures.old ∙ answers c.in-Ok.path.now in
    let new : folder_at done f.path.now ≡ None =
    rw (← named) (was_not_there c.in_ok-had.had (folder_at done c.in-Ok.path.now) had (sym c.if-is_some.ensures)) in
    let listed = c.in-Ok-answer_of.listed in (
      f ∷ done,
      whole,
      ((c.in-Ok.ensures.cases.1, c.in-Ok-answer_of.ensures.names), new, are),
      one_listed
          c.loop-folder.by_path c.insert.new.self c.in-Ok.path listed f done named c.in-Ok-answer_of.ensures.ok
          c.in_ok-had.ensures.updates answers,
    )
