-- What was written where nobody else was there.
use Rattle.std.proofs.Common.{◌≡◌, ℕ, ◌<◌, List, [], ◌∷◌, ◌++◌, length, length-append, inl, inr, refl, sym, ◌∙◌, ap, subst, append_assoc, append-nil, arith}
use Rattle.std.proofs.lemmas.List.Concat.{flat_map-append}
use Rattle.std.specs.Prelude.{Option, flat_map}
use Rattle.faults.specs.Counts.{RoseBy}
use Rattle.blob_model.specs.History.{AllOther}
use Rattle.items.proofs.Rounds.{until_last-twice, until_last-parts}
use Rattle.request_form.proofs.Runs.{well_until}
use Rattle.request_form.specs.Session.{Fixed, Session, AllOwn, IsNobody}
use Rattle.request_form.specs.Transcript.{ItemReply, Run, Transcript, is_last, until_quit, first_session, item_faults, faults_of, faults_in}
use Rattle.request_form.specs.Laws.{OwnIsAlone, AlwaysAnswered}
use Rattle.request_form.specs.Stream.{Stream, AllWellHeard}
use Rattle.request_form.specs.declared.form.Reply.{Reply}
use Rattle.request_form.specs.declared.form.Heard.{Heard}
use Rattle.server_core.specs.declared.flow.End.{End}
use Rattle.server_core.specs.declared.flow.End.TheVariants as Ends
use Rattle.server_core.specs.Conversing.{Progress, AnswersFront}
use Rattle.server_core.specs.Conversed.{AnswersAll, Ended, Reaches}
use Rattle.server_core.specs.Progress.{Point, requests}
use Rattle.server_core.specs.Laws.{SaysWithin, WroteAlone}
use Rattle.server_core.proofs.GoingOn.{Rounds-both}

well_back : (items more : List Heard) → AllWellHeard (items ++ more) → AllWellHeard more
well_back [] more well = well
well_back (item ∷ items) more well = well_back items more well.1

rose_as : (before after n m : ℕ) → m ≡ n → RoseBy n before after → RoseBy m before after
rose_as before after n m same rose = subst (λ (k : ℕ). RoseBy k before after) (sym same) rose

-- a run that is alone, in which the outside failed so often
abbrev Counted : Session → List Heard → List Reply → Session → ℕ → Type 0
Counted s items replies s' count = (alone : Run IsNobody s items replies s') × (faults_of IsNobody s items replies s' alone ≡ count)

-- one in which it failed for no well heard item
abbrev Calm : List Heard → Session → List Heard → List Reply → Session → Type 0
Calm heard s items replies s' = (alone : Run IsNobody s items replies s') × (AllWellHeard heard → faults_of IsNobody s items replies s' alone ≡ 0)

module _ (own_is_alone : OwnIsAlone) (always : AlwaysAnswered) (said : Reply → List ℕ) (fixed : Fixed) (old new : Point) (first : old.session ≡ first_session fixed 1) (own : AllOwn 1 new.session.seen) where
  -- the items up to a Quit were answered by nobody else
  run_alone : (items : List Heard) (replies : List Reply) → until_quit items ≡ items → (run : Run AllOther old.session items replies new.session)
      → Counted (first_session fixed 1) items replies new.session (faults_of AllOther old.session items replies new.session run)
  run_alone items replies is =
      subst (λ (s : Session). (run : Run AllOther s items replies new.session) → Counted (first_session fixed 1) items replies new.session (faults_of AllOther s items replies new.session run)) (sym first)
      (subst (λ (xs : List Heard). (run : Run AllOther (first_session fixed 1) xs replies new.session)
      → Counted (first_session fixed 1) xs replies new.session (faults_of AllOther (first_session fixed 1) xs replies new.session run)) is
      (λ run. own_is_alone (first_session fixed 1) items replies new.session own run))

  all_alone : (heard items : List Heard) (rest : List ℕ) → (p : Progress (requests said) [] old items rest new) → AnswersAll is_last heard items rest → SaysWithin said fixed heard old.faults new.faults p.out
  all_alone heard items rest p all =
      let same : until_quit items ≡ items = subst (λ (xs : List Heard). until_quit xs ≡ xs) (sym all.0) (until_last-twice is_last heard) in
      let count = faults_of AllOther old.session items p.replies new.session p.run in
      let transcript : Counted (first_session fixed 1) (until_quit heard) p.replies new.session count =
      subst (λ (xs : List Heard). Counted (first_session fixed 1) xs p.replies new.session count) all.0 (run_alone items p.replies same p.run) in
      record {
        alone = record {
          replies = p.replies;
          last = new.session;
          transcript = transcript.0;
          says = sym (p.says ∙ (ap (λ (x : List ℕ). p.out ++ x) all.1 ∙ append-nil p.out));
        };
        faults = λ well. rose_as old.faults new.faults count _ transcript.1 p.faults;
      }

  -- a front that was answered alone, and then what is left: the outside failed as often as for the front
  front_joined : (heard items front : List Heard) (replies more : List Reply) (count : ℕ) (last : Session) → until_quit heard ≡ items ++ front
      → Counted (first_session fixed 1) items replies new.session count → Calm front new.session front more last
      → (alone : Transcript IsNobody (first_session fixed 1) heard (replies ++ more) last)
      × (AllWellHeard heard → faults_in IsNobody (first_session fixed 1) heard (replies ++ more) last alone ≡ count)
  front_joined heard items front replies more count last is run later =
      let both = Rounds-both (ItemReply IsNobody) item_faults (first_session fixed 1) items replies new.session front more last run.0 later.0 in
      let counted : AllWellHeard heard → faults_of IsNobody (first_session fixed 1) (items ++ front) (replies ++ more) last both.0 ≡ count = λ well.
      omega (arith, both.1, run.1, later.1 (well_back items front (subst AllWellHeard is (well_until heard well)))) in
      subst (λ (xs : List Heard). (alone : Run IsNobody (first_session fixed 1) xs (replies ++ more) last)
      × (AllWellHeard heard → faults_of IsNobody (first_session fixed 1) xs (replies ++ more) last alone ≡ count)) (sym is) (both.0, counted)

  -- the same from what others would have been answered
  front_continued : (heard items front : List Heard) (replies : List Reply) (count : ℕ) → until_quit heard ≡ items ++ front → until_quit front ≡ front → Counted (first_session fixed 1) items replies new.session count
      → (more : List Reply) × ((last : Session) × ((alone : Transcript IsNobody (first_session fixed 1) heard (replies ++ more) last)
      × (AllWellHeard heard → faults_in IsNobody (first_session fixed 1) heard (replies ++ more) last alone ≡ count)))
  front_continued heard items front replies count is all run =
      let more = always new.session front in
      let later : Calm front new.session front more.0 more.1.0 = subst (λ (xs : List Heard). Calm front new.session xs more.0 more.1.0) all more.1.1 in
      (more.0, (more.1.0, front_joined heard items front replies more.0 count more.1.0 is run later))

  -- A front of the items, and then what others would have been answered. What is still to be written begins with the rest.
  front_alone : (heard items : List Heard) (rest : List ℕ) → (p : Progress (requests said) [] old items rest new) → AnswersFront is_last heard items → (later : List ℕ) × SaysWithin said fixed heard old.faults new.faults (p.out ++ (rest ++ later))
  front_alone heard items rest p front =
      let parts = until_last-parts is_last items front.0 (subst (λ (xs : List Heard). until_quit xs ≡ xs) front.1 (until_last-twice is_last heard)) in
      let count = faults_of AllOther old.session items p.replies new.session p.run in
      let all = front_continued heard items front.0 p.replies count front.1 parts.1 (run_alone items p.replies parts.0 p.run) in (
        flat_map said all.0,
        record {
          alone = record {
            replies = p.replies ++ all.0;
            last = all.1.0;
            transcript = all.1.1.0;
            says = sym (flat_map-append said p.replies all.0 ∙ (ap (λ (x : List ℕ). x ++ flat_map said all.0) p.says ∙ append_assoc p.out rest (flat_map said all.0)));
          };
          faults = λ well. rose_as old.faults new.faults count _ (all.1.1.1 well) p.faults;
        },
      )

  longer : (rest later : List ℕ) → 0 < length rest → 0 < length (rest ++ later)
  longer rest later some = rw (length-append rest later) (omega arith)

  -- more than a front is still to be written where some of the front is
  part_alone : (heard items : List Heard) (rest : List ℕ) → (p : Progress (requests said) [] old items rest new) → 0 < length rest → AnswersFront is_last heard items →
      (more : List ℕ) × (0 < length more) × SaysWithin said fixed heard old.faults new.faults (p.out ++ more)
  part_alone heard items rest p some front = let f = front_alone heard items rest p front in (rest ++ f.0, longer rest f.0 some, f.1)

  begun_alone : (heard items : List Heard) (rest : List ℕ) → (p : Progress (requests said) [] old items rest new) → AnswersFront is_last heard items →
      (more : List ℕ) × SaysWithin said fixed heard old.faults new.faults (p.out ++ more)
  begun_alone heard items rest p front = let f = front_alone heard items rest p front in (rest ++ f.0, f.1)

  module _ (heard : Stream) (taken limit : ℕ) (items : List Heard) (rest : List ℕ) (left : Option (List ℕ)) (ends ends' : ℕ) (p : Progress (requests said) [] old items rest new) where
    abbrev wrote : End → Type 0
    wrote end = WroteAlone said fixed heard taken limit ends ends' left old.faults new.faults p.out end

    pub wrote_alone : (end : End) → Ended is_last heard taken limit items rest left end → Reaches is_last heard taken limit items ends ends' left end → wrote end
    wrote_alone Ends.Quit e (inl r) = (heard.whole, inr refl, r.1, all_alone heard.whole items rest p (r.0, e.0.1))
    wrote_alone Ends.Quit e (inr r) = (heard.items, inl (refl, r), e.1, all_alone heard.items items rest p e.0)
    wrote_alone Ends.InputEnd e r = all_alone heard.items items rest p e.0
    wrote_alone Ends.Cut e r = all_alone heard.whole items rest p e.0
    wrote_alone Ends.ReadFault e r = all_alone heard.whole items rest p e.0
    wrote_alone Ends.InputTooLong e r = all_alone heard.whole items rest p e.0
    wrote_alone Ends.WriteFault e (inl r) = (heard.whole, inr refl, part_alone heard.whole items rest p e.1 r)
    wrote_alone Ends.WriteFault e (inr r) = (heard.items, inl (refl, r), part_alone heard.items items rest p e.1 e.0)
    wrote_alone Ends.NoMemory e (inl r) = (heard.whole, inr refl, begun_alone heard.whole items rest p r)
    wrote_alone Ends.NoMemory e (inr r) = (heard.items, inl (refl, r), begun_alone heard.items items rest p e)
