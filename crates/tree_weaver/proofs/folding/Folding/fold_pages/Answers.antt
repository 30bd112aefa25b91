use Rattle.std.proofs.Common.{◌≡◌, ℕ, zero, suc, ◌+◌, ◌<◌, List, [], ◌∷◌, ◌++◌, Option, Some, None, length, map, take, get_or, arith, refl, ap, sym, subst, ◌∙◌, append-nil, length-append}
use Rattle.std.specs.Prelude.{All}
use Rattle.std.specs.List.{cons_option, filter_map}
use Rattle.std.proofs.lemmas.List.{map-append, take_all, take_more}
use Rattle.std.proofs.lemmas.List.Elements.{All-head, All-tail, All-push, filter_map-append}
use Rattle.page_store.specs.Page.{IsAmong}
use Rattle.page_store.specs.Stored.{Stored}
use Rattle.range_reader.proofs.Counting.{kept_yet, kept_twice}
use Rattle.tree_weaver.specs.Anew.{IsStoredAnew, bytes_anew}
use Rattle.tree_weaver.proofs.Lost.{lost_weaker, lost_since}
use Rattle.tree_weaver.proofs.Putting.{put_next}
use Rattle.tree_weaver.proofs.folding.Folding.fold_pages.Goals as goal

-- a page that is named is one of those
named_in : (P : ℕ → Type 0) (pages : List (Option ℕ)) (k page : ℕ) → get_or pages k None ≡ Some page → All P (filter_map (λ o. o) pages) → P page
named_in P [] k page is all = cc
named_in P (Some x ∷ l) zero page is all = let e : x ≡ page = cc in subst P e (All-head P x (filter_map (λ o. o) l) all)
named_in P (None ∷ l) zero page is all = cc
named_in P (Some x ∷ l) (suc k) page is all = named_in P l k page is (All-tail P x (filter_map (λ o. o) l) all)
named_in P (None ∷ l) (suc k) page is all = named_in P l k page is all

-- one more page, or none
named_more : (pages : List (Option ℕ)) (k : ℕ) (o : Option ℕ) → k < length pages → get_or pages k None ≡ o
    → filter_map (λ o. o) (take (k + 1) pages) ≡ filter_map (λ o. o) (take k pages) ++ cons_option o []
named_more pages k o lt is =
    ap (filter_map (λ o. o)) (take_more pages k None lt)
    ∙ filter_map-append (λ o. o) (take k pages) (get_or pages k None ∷ [])
    ∙ ap (λ x. filter_map (λ o. o) (take k pages) ++ cons_option x []) is

pub loop-page-init : goal.loop-page-init
loop-page-init g c =
    let none = c.none-folds.ensures in
    record {
      can = c.requires.can;
      bytes = ap (map (λ (s : Stored). s.bytes)) none;
      few = omega (arith, ap length none);
      lie = rw none (λ k d lt. absurd (omega (arith, lt)));
      put = rw none (λ k d lt. absurd (omega (arith, lt)));
      untouched = λ _. refl;
      kept = kept_yet _ _;
      room = refl;
    }

pub fold_page-requires-clause-can : goal.fold_page-requires-clause-can
fold_page-requires-clause-can g c = λ _ _. c.loop-page.invariant.can

pub fold_page-requires-clause-room : goal.fold_page-requires-clause-room
fold_page-requires-clause-room g c = λ _ _. c.loop-page.invariant.room ∙ c.requires.room

pub fold_page-requires-clause-anew : goal.fold_page-requires-clause-anew
fold_page-requires-clause-anew g c = λ _ _. named_in (IsStoredAnew c.args.self.now.ticket.now) c.args.pages c.loop-page.page-index c.in-Some.page c.in-Some.is c.requires.anew

pub add-requires : goal.add-requires
add-requires g c = omega (arith, c.loop-page.invariant.few, c.loop-page-test.true)

pub loop-page-preserved-in_default : goal.loop-page-preserved-in_default
loop-page-preserved-in_default g c =
    let i = c.loop-page.invariant in
    let two : length c.args.pages ≡ 2 = grind (arith, c.well_formed) in
    let more = named_more c.args.pages c.loop-page.page-index None (omega (arith, two, c.loop-page-test.true)) c.in_default.is ∙ append-nil _ in
    record {
      can = i.can;
      bytes = i.bytes ∙ sym (ap (map (bytes_anew c.args.self.now.ticket.now)) more);
      few = omega (arith, i.few);
      lie = i.lie;
      put = i.put;
      untouched = λ none. i.untouched (sym more ∙ none);
      kept = i.kept;
      room = i.room;
    }

pub loop-page-preserved : goal.loop-page-preserved
loop-page-preserved g c =
    let t = c.args.self.now.ticket.now in
    let loads = c.args.self.now.loads.now in
    let folds = c.loop-page.folds in
    let stored = c.in-Ok.stored in
    let i = c.loop-page.invariant in
    let e = c.in-Ok.ensures in
    let bytes : Stored → List ℕ = λ s. s.bytes in
    let named = filter_map (λ o. o) (take c.loop-page.page-index c.args.pages) in
    let two : length c.args.pages ≡ 2 = grind (arith, c.well_formed) in
    let more = named_more c.args.pages c.loop-page.page-index (Some c.in-Some.page) (omega (arith, two, c.loop-page-test.true)) c.in-Some.is in
    record {
      can = c.fold_page.ensures.can;
      bytes = ap (map bytes) c.add.ensures ∙ map-append bytes folds (stored ∷ []) ∙ ap (λ l. l ++ stored.bytes ∷ []) i.bytes
          ∙ ap (λ b. map (bytes_anew t) named ++ b ∷ []) e.bytes
          ∙ sym (ap (map (bytes_anew t)) more ∙ map-append (bytes_anew t) named (c.in-Some.page ∷ []));
      few = omega (arith, i.few, ap length c.add.ensures, length-append folds (stored ∷ []));
      lie = rw c.add.ensures (All-push (λ (s : Stored). All (IsAmong c.args.self.now.houses.now) s.spots) folds stored i.lie e.lies);
      put = put_next g.D.Door.called g.D.Door.faults loads.providers loads.replicas c.args.doors.now c.loop-page.doors c.fold_page.new.doors folds c.add.new.self stored c.add.ensures
          c.fold_page.ensures.kept.none_fell i.kept.none_fell i.put e.put;
      untouched = λ none. absurd (let z : length (named ++ c.in-Some.page ∷ []) ≡ 0 = ap length (sym more ∙ none) in omega (arith, z, length-append named (c.in-Some.page ∷ [])));
      kept = kept_twice _ _ _ _ _ _ i.kept c.fold_page.ensures.kept;
      room = c.fold_page.ensures.room_stays ∙ i.room;
    }

pub returns-in-Err-clause-page : goal.returns-in-Err-clause-page
returns-in-Err-clause-page g c =
    let anew = IsStoredAnew c.args.self.now.ticket.now in
    lost_weaker c.in-Err.fault _ _ (λ i same. subst anew (sym same) (named_in anew c.args.pages c.loop-page.page-index c.in-Some.page c.in-Some.is c.requires.anew)) c.in-Err.ensures.page

pub returns-in-Err-clause-lost : goal.returns-in-Err-clause-lost
returns-in-Err-clause-lost g c =
    lost_weaker c.in-Err.fault _ _
    (λ i lost. lost_since g.D.Door.faults c.args.self.now c.args.doors.now c.loop-page.doors c.fold_page.new.doors i c.loop-page.invariant.kept lost) c.in-Err.ensures.lost

pub returns-in-Err-clause-untouched : goal.returns-in-Err-clause-untouched
returns-in-Err-clause-untouched g c = λ none.
    named_in (λ _. c.fold_page.new.doors ≡ c.args.doors.now) c.args.pages c.loop-page.page-index c.in-Some.page c.in-Some.is (rw none (λ k d lt. absurd (omega (arith, lt))))

pub returns-in-Err-clause-kept : goal.returns-in-Err-clause-kept
returns-in-Err-clause-kept g c = kept_twice _ _ _ _ _ _ c.loop-page.invariant.kept c.fold_page.ensures.kept

pub returns-in-Err-clause-room_stays : goal.returns-in-Err-clause-room_stays
returns-in-Err-clause-room_stays g c = c.fold_page.ensures.room_stays ∙ c.loop-page.invariant.room

pub returns : goal.returns
returns g c =
    let i = c.loop-page.invariant in
    let two : length c.args.pages ≡ 2 = grind (arith, c.well_formed) in
    let all = take_all c.loop-page.page-index c.args.pages (omega (arith, two, c.loop-page-test.false)) in
    record {
      bytes = i.bytes ∙ ap (λ l. map (bytes_anew c.args.self.now.ticket.now) (filter_map (λ o. o) l)) all;
      lie = i.lie;
      put = i.put;
      page = tt;
      lost = tt;
      untouched = λ none. i.untouched (ap (filter_map (λ o. o)) all ∙ none);
      kept = i.kept;
      can = i.can;
      room_stays = i.room;
    }
