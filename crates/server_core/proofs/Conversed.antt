-- A stream that goes on, and how it ends.
use Rattle.std.proofs.Common.{◌≡◌, ℕ, ◌+◌, ◌<◌, ◌≤◌, List, [], ◌++◌, length, length-append, refl, sym, ◌∙◌, ap, subst, append-nil, inl, inr, arith}
use Rattle.std.specs.Prelude.{Bool, Option, flat_map}
use Rattle.std.specs.Io.KnownBytes.{IsAtEnd}
use Rattle.faults.specs.Counts.{RoseBy}
use Rattle.items.specs.Items.{ItemStream}
use Rattle.items.specs.Rounds.{until_last, has_last}
use Rattle.items.proofs.Rounds.{Rounds-length}
use Rattle.server_core.specs.declared.flow.End.{End}
use Rattle.server_core.specs.declared.flow.End.TheVariants as Ends
use Rattle.server_core.specs.Talk.{Talk, PointOf}
use Rattle.server_core.specs.Conversing.{Progress, Goes, Quits, Stops}
use Rattle.server_core.specs.Conversed.{Ended, Closing, Input, TakesOff, Stays, CameToEnd, Reaches, InPieces, Conversed, Finished}
use Rattle.server_core.proofs.GoingOn.{Goes-none, Progress-none, Progress-trans}
use Rattle.server_core.proofs.Endings.{Serving, TakesOff-none, TakesOff-trans, Goes-feed, Goes-trans, Goes-quits, Goes-stops, whole_both, all_whole, no_quit_whole, finish_both, close_both}

stays_at_end : {Item : Type 0} (is_last : Item → Bool) (reads : List ℕ → ItemStream Item) (taken : List ℕ) (limit : ℕ) (items : List Item) (ends ends' : ℕ) (left : Option (List ℕ)) (end : End)
    → CameToEnd (length taken) limit ends ends' left → Stays is_last reads taken limit items ends ends' left end
stays_at_end is_last reads taken limit items ends ends' left Ends.Quit came = inr came
stays_at_end is_last reads taken limit items ends ends' left Ends.InputEnd came = tt
stays_at_end is_last reads taken limit items ends ends' left Ends.Cut came = tt
stays_at_end is_last reads taken limit items ends ends' left Ends.ReadFault came = tt
stays_at_end is_last reads taken limit items ends ends' left Ends.WriteFault came = inr came
stays_at_end is_last reads taken limit items ends ends' left Ends.InputTooLong came = tt
stays_at_end is_last reads taken limit items ends ends' left Ends.NoMemory came = inr came

reaches_end : {Item : Type 0} (is_last : Item → Bool) (heard : ItemStream Item) (taken limit : ℕ) (items : List Item) (ends ends' : ℕ) (left : Option (List ℕ)) (end : End) → CameToEnd taken limit ends ends' left
    → Reaches is_last heard taken limit items ends ends' left end
reaches_end is_last heard taken limit items ends ends' left Ends.Quit came = inr came
reaches_end is_last heard taken limit items ends ends' left Ends.InputEnd came = tt
reaches_end is_last heard taken limit items ends ends' left Ends.Cut came = tt
reaches_end is_last heard taken limit items ends ends' left Ends.ReadFault came = tt
reaches_end is_last heard taken limit items ends ends' left Ends.WriteFault came = inr came
reaches_end is_last heard taken limit items ends ends' left Ends.InputTooLong came = tt
reaches_end is_last heard taken limit items ends ends' left Ends.NoMemory came = inr came

module _ {Item : Type 0} (talk : Talk Item) (old : PointOf talk.Session) (reads : List ℕ → ItemStream Item) (before : Input) where
  -- nothing was taken yet
  pub Serving-none : (reads []).whole ≡ [] → Serving talk old reads before before 0 old reads
  Serving-none none = record { taken = []; takes = TakesOff-none before; counts = refl; goes = Goes-none talk old reads; empty = none; same_ends = refl }

  pub Conversed-none : (limit : ℕ) → (reads []).whole ≡ [] → Conversed talk old reads before before limit old Ends.NoMemory
  Conversed-none limit none = record {
    taken = [];
    takes = TakesOff-none before;
    within = omega arith;
    items = [];
    rest = [];
    progress = Progress-none talk [] old;
    pieces = record {
      earlier = [];
      piece = [];
      joins = refl;
      short = omega arith;
      no_quit = ap (has_last talk.is_last) none;
      later = [];
      answered = sym (ap (λ (xs : List Item). xs ++ []) none);
      first = [];
      others = [];
      replied = refl;
      one_each = sym (ap length none);
      text = [];
      wrote = refl;
    };
    ended = (until_last talk.is_last (reads []).items, refl);
    closing = tt;
    reaches = inl (until_last talk.is_last (reads []).whole, refl);
    stays = inl (λ more. (until_last talk.is_last (reads more).items, refl));
  }

  module _ (now : Input) (count limit : ℕ) (mid : PointOf talk.Session) (after : List ℕ → ItemStream Item) (s : Serving talk old reads before now count mid after) where
    whole_now : (reads s.taken).whole ≡ s.goes.items
    whole_now = ap (λ (xs : List ℕ). (reads xs).whole) (sym (append-nil s.taken)) ∙ whole_both talk old (λ (more : List ℕ). reads (s.taken ++ more)) mid after s.goes [] s.empty

    one_each_now : length s.goes.progress.replies ≡ length (reads s.taken).whole
    one_each_now = Rounds-length talk.Answers old.session s.goes.items s.goes.progress.replies mid.session s.goes.progress.run ∙ ap length (sym whole_now)

    wrote_now : s.goes.progress.out ≡ flat_map talk.said s.goes.progress.replies
    wrote_now = sym (s.goes.progress.says ∙ append-nil s.goes.progress.out)

    -- what was taken so far was answered, and then more of what one piece brought
    in_pieces : (piece : List ℕ) (more : List Item) (rest : List ℕ) (new : PointOf talk.Session) → length piece ≤ 65536 → (q : Progress talk [] mid more rest new) →
        InPieces talk reads (s.taken ++ piece) (s.goes.items ++ more) (s.goes.progress.replies ++ q.replies) (s.goes.progress.out ++ q.out)
    in_pieces piece more rest new short q = record {
      earlier = s.taken;
      piece = piece;
      joins = refl;
      short = short;
      no_quit = ap (has_last talk.is_last) whole_now ∙ s.goes.goes;
      later = more;
      answered = ap (λ (xs : List Item). xs ++ more) (sym whole_now);
      first = s.goes.progress.replies;
      others = q.replies;
      replied = refl;
      one_each = one_each_now;
      text = q.out;
      wrote = ap (λ (xs : List ℕ). xs ++ q.out) wrote_now;
    }

    -- what was taken so far was answered, and no more
    in_pieces_now : InPieces talk reads (s.taken ++ []) s.goes.items s.goes.progress.replies s.goes.progress.out
    in_pieces_now = record {
      earlier = s.taken;
      piece = [];
      joins = refl;
      short = omega arith;
      no_quit = ap (has_last talk.is_last) whole_now ∙ s.goes.goes;
      later = [];
      answered = sym whole_now ∙ sym (append-nil (reads s.taken).whole);
      first = s.goes.progress.replies;
      others = [];
      replied = sym (append-nil s.goes.progress.replies);
      one_each = one_each_now;
      text = [];
      wrote = wrote_now ∙ sym (append-nil (flat_map talk.said s.goes.progress.replies));
    }

    -- and then a piece came, or none
    module _ (piece : List ℕ) (last : Input) (takes : TakesOff piece now last) (new : PointOf talk.Session) where
      abbrev bytes : List ℕ
      bytes = s.taken ++ piece

      abbrev all : List ℕ → ItemStream Item
      all more = reads (bytes ++ more)

      abbrev fed : List ℕ → ItemStream Item
      fed more = after (piece ++ more)

      abbrev goes_on : Goes talk old all [] mid fed
      goes_on = Goes-feed talk old reads s.taken mid after piece s.goes

      takes_both : TakesOff bytes before last
      takes_both = TakesOff-trans s.taken piece before now last s.takes takes

      counts_both : length bytes ≡ count + length piece
      counts_both = rw (length-append s.taken piece, s.counts) refl

      ended_at : (n : ℕ) (items : List Item) (rest : List ℕ) (left : Option (List ℕ)) (end : End) → Ended talk.is_last (all []) n limit items rest left end → Ended talk.is_last (reads bytes) n limit items rest left end
      ended_at n items rest left end e = subst (λ (xs : List ℕ). Ended talk.is_last (reads xs) n limit items rest left end) (append-nil bytes) e

      reaches_at : (n : ℕ) (items : List Item) (ends ends' : ℕ) (left : Option (List ℕ)) (end : End) → Reaches talk.is_last (all []) n limit items ends ends' left end → Reaches talk.is_last (reads bytes) n limit items ends ends' left end
      reaches_at n items ends ends' left end e = subst (λ (xs : List ℕ). Reaches talk.is_last (reads xs) n limit items ends ends' left end) (append-nil bytes) e

      closing_at : (ends ends' : ℕ) (end : End) → Closing (all []) ends ends' end → Closing (reads bytes) ends ends' end
      closing_at ends ends' end e = subst (λ (xs : List ℕ). Closing (reads xs) ends ends' end) (append-nil bytes) e

      pub Serving-more : (next : List ℕ → ItemStream Item) → last.ends ≡ now.ends → Goes talk mid fed [] new next → (next []).whole ≡ [] → Serving talk old reads before last (count + length piece) new next
      Serving-more next same_ends goes none = record {
        taken = bytes;
        takes = takes_both;
        counts = counts_both;
        goes = Goes-trans talk old all mid fed goes_on new next goes;
        empty = none;
        same_ends = same_ends ∙ s.same_ends;
      }

      pub Serving-quits : last.ends ≡ now.ends → count + length piece ≤ limit → length piece ≤ 65536 → Quits talk mid fed [] new → Conversed talk old reads before last limit new Ends.Quit
      Serving-quits same_ends within short q =
          let quits = Goes-quits talk old all mid fed goes_on new q in
          record {
            taken = bytes;
            takes = takes_both;
            within = omega (arith, counts_both);
            items = quits.items;
            rest = [];
            progress = quits.progress;
            pieces = in_pieces piece q.items [] new short q.progress;
            ended = ended_at (length bytes) quits.items [] last.left Ends.Quit ((sym (quits.reads []).0, refl), (quits.reads []).1);
            reaches = reaches_at (length bytes) quits.items before.ends last.ends last.left Ends.Quit (inl (sym (quits.whole []).0, (quits.whole []).1));
            closing = λ cut. same_ends ∙ s.same_ends;
            stays = inl (λ more. ([], (quits.reads more).0 ∙ sym (append-nil quits.items)));
          }

      pub Serving-write_fault : (rest : List ℕ) → last.ends ≡ now.ends → count + length piece ≤ limit → length piece ≤ 65536 → 0 < length rest → Stops talk mid fed rest new → Conversed talk old reads before last limit new Ends.WriteFault
      Serving-write_fault rest same_ends within short some q =
          let stops = Goes-stops talk old all mid fed goes_on rest new q in
          record {
            taken = bytes;
            takes = takes_both;
            within = omega (arith, counts_both);
            items = stops.items;
            rest = rest;
            progress = stops.progress;
            pieces = in_pieces piece q.items rest new short q.progress;
            ended = ended_at (length bytes) stops.items rest last.left Ends.WriteFault (stops.reads [], some);
            reaches = reaches_at (length bytes) stops.items before.ends last.ends last.left Ends.WriteFault (inl (stops.whole []));
            closing = λ cut. same_ends ∙ s.same_ends;
            stays = inl stops.reads;
          }

      pub Serving-no_memory : (rest : List ℕ) → count + length piece ≤ limit → length piece ≤ 65536 → Stops talk mid fed rest new → Conversed talk old reads before last limit new Ends.NoMemory
      Serving-no_memory rest within short q =
          let stops = Goes-stops talk old all mid fed goes_on rest new q in
          record {
            taken = bytes;
            takes = takes_both;
            within = omega (arith, counts_both);
            items = stops.items;
            rest = rest;
            progress = stops.progress;
            pieces = in_pieces piece q.items rest new short q.progress;
            ended = ended_at (length bytes) stops.items rest last.left Ends.NoMemory (stops.reads []);
            reaches = reaches_at (length bytes) stops.items before.ends last.ends last.left Ends.NoMemory (inl (stops.whole []));
            closing = tt;
            stays = inl stops.reads;
          }

    module _ (last : Input) (takes : TakesOff [] now last) where
      -- no piece came, and whole items are answered
      pub Serving-fails : last.ends ≡ now.ends → count < limit → Conversed talk old reads before last limit mid Ends.ReadFault
      Serving-fails same_ends less =
          let goes = goes_on [] last takes mid in
          let at = ended_at [] last takes mid in
          let counts = counts_both [] last takes mid in
          record {
            taken = s.taken ++ [];
            takes = takes_both [] last takes mid;
            within = omega (arith, counts);
            items = goes.items;
            rest = [];
            progress = goes.progress;
            pieces = in_pieces_now;
            ended = at (length (s.taken ++ [])) goes.items [] last.left Ends.ReadFault (
              all_whole talk old _ mid after goes [] s.empty,
              no_quit_whole talk old _ mid after goes [] s.empty,
              omega (arith, counts),
            );
            closing = same_ends ∙ s.same_ends;
            reaches = tt;
            stays = tt;
          }

      pub Serving-too_long : last.ends ≡ now.ends → count ≡ limit → Conversed talk old reads before last limit mid Ends.InputTooLong
      Serving-too_long same_ends full =
          let goes = goes_on [] last takes mid in
          let at = ended_at [] last takes mid in
          let counts = counts_both [] last takes mid in
          record {
            taken = s.taken ++ [];
            takes = takes_both [] last takes mid;
            within = omega (arith, counts);
            items = goes.items;
            rest = [];
            progress = goes.progress;
            pieces = in_pieces_now;
            ended = at (length (s.taken ++ [])) goes.items [] last.left Ends.InputTooLong (
              all_whole talk old _ mid after goes [] s.empty,
              no_quit_whole talk old _ mid after goes [] s.empty,
              omega (arith, counts),
            );
            closing = same_ends ∙ s.same_ends;
            reaches = tt;
            stays = tt;
          }

      -- the stream's end came, and what it leaves over was answered
      pub Serving-finished : (new : PointOf talk.Session) (end : End) → RoseBy 1 before.ends last.ends → IsAtEnd last.left → count < limit → Finished talk mid (after []) new end → Conversed talk old reads before last limit new end
      Serving-finished new end rose at_end less f =
          let goes = goes_on [] last takes new in
          let counts = counts_both [] last takes new in
          let came : CameToEnd (length (s.taken ++ [])) limit before.ends last.ends last.left = (omega (arith, counts), rose, at_end) in
          record {
            taken = s.taken ++ [];
            takes = takes_both [] last takes new;
            within = omega (arith, counts);
            items = goes.items ++ f.items;
            rest = f.rest;
            progress = Progress-trans talk [] old mid new goes.items f.items [] f.rest goes.progress f.progress;
            pieces = in_pieces [] f.items f.rest new (omega arith) f.progress;
            ended = ended_at [] last takes new (length (s.taken ++ [])) (goes.items ++ f.items) f.rest last.left end
                (finish_both talk old _ mid after goes new end (length (s.taken ++ [])) limit last.left s.empty (omega (arith, counts)) at_end f);
            closing = closing_at [] last takes new before.ends last.ends end (close_both talk old _ mid after goes new before.ends last.ends end rose f);
            reaches = reaches_end talk.is_last (reads (s.taken ++ [])) (length (s.taken ++ [])) limit (goes.items ++ f.items) before.ends last.ends last.left end came;
            stays = stays_at_end talk.is_last reads (s.taken ++ []) limit (goes.items ++ f.items) before.ends last.ends last.left end came;
          }
