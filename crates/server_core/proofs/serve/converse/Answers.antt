use Rattle.std.proofs.Common.{rules, ◌≡◌, ℕ, ◌+◌, true, List, [], length, take, refl, sym, ◌∙◌, ap, subst, arith}
use Rattle.std.proofs.lemmas.List.{length-take-le}
use Rattle.std.specs.Io.KnownBytes.{IsAtEnd}
use Rattle.faults.specs.Counts.{RoseBy}
use Rattle.server_core.specs.Talk.{PointOf}
use Rattle.server_core.specs.Conversed.{Input, TakesOff}
use Rattle.server_core.proofs.Endings.{Serving, Serving-at, TakesOff-none, TakesOff-same}
use Rattle.server_core.proofs.Conversed.{Serving-none, Conversed-none, Serving-fails, Serving-too_long, Serving-finished, Serving-more, Serving-quits, Serving-write_fault, Serving-no_memory}
use Rattle.server_core.proofs.serve.converse.Goals as goal

pub returns-in-Err-clause-conversed : goal.returns-in-Err-clause-conversed
returns-in-Err-clause-conversed g c = Conversed-none g.C.Conversation.talk _ (g.C.Conversation.reads c.args.talk.now) _ c.args.limit c.requires.fresh

pub returns-in-Err-new-clause-conversed : goal.returns-in-Err-new-clause-conversed
returns-in-Err-new-clause-conversed g c = Conversed-none g.C.Conversation.talk _ (g.C.Conversation.reads c.args.talk.now) _ c.args.limit c.requires.fresh

pub pieces-init : goal.pieces-init
pieces-init g c = record {
  serving = Serving-none g.C.Conversation.talk _ (g.C.Conversation.reads c.args.talk.now) _ c.requires.fresh;
  within = omega arith;
  room = search rules;
  gathered = search rules;
  read_faults = omega arith;
  write_faults = omega arith;
  objects = refl;
  kept = refl;
}

pub returns-in-Failed-clause-conversed : goal.returns-in-Failed-clause-conversed
returns-in-Failed-clause-conversed g c =
    Serving-fails g.C.Conversation.talk _ (g.C.Conversation.reads c.args.talk.now) _ _ c.pieces.count c.args.limit _ (g.C.Conversation.reads c.pieces.talk) (Serving-at g.C.Conversation.talk _ (g.C.Conversation.reads c.args.talk.now) _ _ c.pieces.count _ (g.C.Conversation.reads c.pieces.talk) (g.I.Ends.written c.take_piece.new.io) c.in-Failed.ensures.written c.pieces.invariant.serving)
    _ (record { given = c.in-Failed.ensures.given; left = c.in-Failed.ensures.left }) c.in-Failed.ensures.ends c.pieces-test.true

pub returns-in-End-clause-conversed : goal.returns-in-End-clause-conversed
returns-in-End-clause-conversed g c =
    let taken : TakesOff [] (record { given = g.I.Ends.given c.pieces.io; left = g.I.Ends.left c.pieces.io; ends = g.I.Ends.ends c.pieces.io }) (record { given = g.I.Ends.given c.take_piece.new.io; left = g.I.Ends.left c.take_piece.new.io; ends = g.I.Ends.ends c.take_piece.new.io }) =
    record { given = c.in-End.ensures.given; left = c.in-End.ensures.left } in
    let start : RoseBy 1 (g.I.Ends.ends c.args.io.now) (g.I.Ends.ends c.take_piece.new.io) = subst (λ (n : ℕ). RoseBy 1 n (g.I.Ends.ends c.take_piece.new.io)) c.pieces.invariant.serving.same_ends c.in-End.ensures.ends in
    Serving-finished g.C.Conversation.talk _ (g.C.Conversation.reads c.args.talk.now) _ _ c.pieces.count c.args.limit _ (g.C.Conversation.reads c.pieces.talk) (Serving-at g.C.Conversation.talk _ (g.C.Conversation.reads c.args.talk.now) _ _ c.pieces.count _ (g.C.Conversation.reads c.pieces.talk) (g.I.Ends.written c.take_piece.new.io) c.in-End.ensures.written c.pieces.invariant.serving)
    (record { given = g.I.Ends.given c.finish.new.io; left = g.I.Ends.left c.finish.new.io; ends = g.I.Ends.ends c.finish.new.io })
    (TakesOff-same [] _ _ _ taken c.finish.ensures.given c.finish.ensures.left)
    _ _
    (subst (λ (n : ℕ). RoseBy 1 (g.I.Ends.ends c.args.io.now) n) (sym c.finish.ensures.ends) start)
    (subst IsAtEnd (sym c.finish.ensures.left) c.in-End.ensures.at_end)
    c.pieces-test.true c.finish.ensures.finished

pub pieces-preserved : goal.pieces-preserved
pieces-preserved g c =
    let before : Input = record { given = g.I.Ends.given c.pieces.io; left = g.I.Ends.left c.pieces.io; ends = g.I.Ends.ends c.pieces.io } in
    let took : Input = record { given = g.I.Ends.given c.take_piece.new.io; left = g.I.Ends.left c.take_piece.new.io; ends = g.I.Ends.ends c.take_piece.new.io } in
    let last : Input = record { given = g.I.Ends.given c.answer_piece.new.io; left = g.I.Ends.left c.answer_piece.new.io; ends = g.I.Ends.ends c.answer_piece.new.io } in
    let bytes : List ℕ = c.first_of-piece.result.now in
    let is : bytes ≡ take c.in-Got.n c.take_piece.new.buf.items = c.first_of-piece.ensures in
    let size : length bytes ≡ c.in-Got.n = ap length is ∙ length-take-le c.in-Got.n c.take_piece.new.buf.items (omega (arith, c.in-Got.ensures.within.1, c.take_piece.ensures.room, c.pieces.invariant.room, c.room_of-room.ensures.fits)) in
    let front : TakesOff (take c.in-Got.n c.take_piece.new.buf.items) before took = record { given = c.in-Got.ensures.given; left = c.in-Got.ensures.left } in
    let takes : TakesOff bytes before last = TakesOff-same bytes before took last (subst (λ (xs : List ℕ). TakesOff xs before took) (sym is) front) c.in-Goes.ensures.given c.in-Goes.ensures.left in
    let same_ends : last.ends ≡ before.ends = c.in-Goes.ensures.ends ∙ c.in-Got.ensures.ends in
    let old : PointOf g.C.Conversation.talk.Session = record { session = g.C.Conversation.session c.args.talk.now; faults = g.C.Conversation.faults c.args.talk.now; written = g.I.Ends.written c.args.io.now } in
    let new : PointOf g.C.Conversation.talk.Session = record { session = g.C.Conversation.session c.answer_piece.new.talk; faults = g.C.Conversation.faults c.answer_piece.new.talk; written = g.I.Ends.written c.answer_piece.new.io } in
    let first : Input = record { given = g.I.Ends.given c.args.io.now; left = g.I.Ends.left c.args.io.now; ends = g.I.Ends.ends c.args.io.now } in
    let more = Serving-more g.C.Conversation.talk _ (g.C.Conversation.reads c.args.talk.now) _ _ c.pieces.count c.args.limit _ (g.C.Conversation.reads c.pieces.talk) (Serving-at g.C.Conversation.talk _ (g.C.Conversation.reads c.args.talk.now) _ _ c.pieces.count _ (g.C.Conversation.reads c.pieces.talk) (g.I.Ends.written c.take_piece.new.io) c.in-Got.ensures.written c.pieces.invariant.serving)
    bytes last takes _ (g.C.Conversation.reads c.answer_piece.new.talk) same_ends c.in-Goes.ensures.drained.0 c.in-Goes.ensures.drained.1 in
    record {
      serving = subst (λ (n : ℕ). Serving g.C.Conversation.talk old (g.C.Conversation.reads c.args.talk.now) first last (c.pieces.count + n) new (g.C.Conversation.reads c.answer_piece.new.talk)) size more;
      within = omega (arith, c.in-Got.ensures.within.1, c.room_of-room.ensures.within, c.pieces.invariant.within, c.pieces-test.true);
      room = c.take_piece.ensures.room ∙ c.pieces.invariant.room;
      gathered = search rules;
      read_faults = omega (arith, c.in-Goes.ensures.read_faults, c.in-Got.ensures.read_faults.later, c.pieces.invariant.read_faults);
      write_faults = omega (arith, c.in-Goes.ensures.write_faults.later, c.in-Got.ensures.write_faults, c.pieces.invariant.write_faults);
      objects = c.in-Goes.ensures.objects ∙ (c.in-Got.ensures.objects ∙ c.pieces.invariant.objects);
      kept = c.in-Goes.ensures.kept ∙ c.pieces.invariant.kept;
    }

pub returns-in-Quits-clause-conversed : goal.returns-in-Quits-clause-conversed
returns-in-Quits-clause-conversed g c =
    let before : Input = record { given = g.I.Ends.given c.pieces.io; left = g.I.Ends.left c.pieces.io; ends = g.I.Ends.ends c.pieces.io } in
    let took : Input = record { given = g.I.Ends.given c.take_piece.new.io; left = g.I.Ends.left c.take_piece.new.io; ends = g.I.Ends.ends c.take_piece.new.io } in
    let last : Input = record { given = g.I.Ends.given c.answer_piece.new.io; left = g.I.Ends.left c.answer_piece.new.io; ends = g.I.Ends.ends c.answer_piece.new.io } in
    let bytes : List ℕ = c.first_of-piece.result.now in
    let is : bytes ≡ take c.in-Got.n c.take_piece.new.buf.items = c.first_of-piece.ensures in
    let size : length bytes ≡ c.in-Got.n = ap length is ∙ length-take-le c.in-Got.n c.take_piece.new.buf.items (omega (arith, c.in-Got.ensures.within.1, c.take_piece.ensures.room, c.pieces.invariant.room, c.room_of-room.ensures.fits)) in
    let front : TakesOff (take c.in-Got.n c.take_piece.new.buf.items) before took = record { given = c.in-Got.ensures.given; left = c.in-Got.ensures.left } in
    let takes : TakesOff bytes before last = TakesOff-same bytes before took last (subst (λ (xs : List ℕ). TakesOff xs before took) (sym is) front) c.in-Quits.ensures.given c.in-Quits.ensures.left in
    let same_ends : last.ends ≡ before.ends = c.in-Quits.ensures.ends ∙ c.in-Got.ensures.ends in
    Serving-quits g.C.Conversation.talk _ (g.C.Conversation.reads c.args.talk.now) _ _ c.pieces.count c.args.limit _ (g.C.Conversation.reads c.pieces.talk) (Serving-at g.C.Conversation.talk _ (g.C.Conversation.reads c.args.talk.now) _ _ c.pieces.count _ (g.C.Conversation.reads c.pieces.talk) (g.I.Ends.written c.take_piece.new.io) c.in-Got.ensures.written c.pieces.invariant.serving)
    bytes last takes _ same_ends (omega (arith, size, c.in-Got.ensures.within.1, c.room_of-room.ensures.within, c.pieces.invariant.within, c.pieces-test.true)) (omega (arith, size, c.in-Got.ensures.within.1, c.room_of-room.ensures.fits)) c.in-Quits.ensures.drained

pub returns-in-WriteFault-clause-conversed : goal.returns-in-WriteFault-clause-conversed
returns-in-WriteFault-clause-conversed g c =
    let before : Input = record { given = g.I.Ends.given c.pieces.io; left = g.I.Ends.left c.pieces.io; ends = g.I.Ends.ends c.pieces.io } in
    let took : Input = record { given = g.I.Ends.given c.take_piece.new.io; left = g.I.Ends.left c.take_piece.new.io; ends = g.I.Ends.ends c.take_piece.new.io } in
    let last : Input = record { given = g.I.Ends.given c.answer_piece.new.io; left = g.I.Ends.left c.answer_piece.new.io; ends = g.I.Ends.ends c.answer_piece.new.io } in
    let bytes : List ℕ = c.first_of-piece.result.now in
    let is : bytes ≡ take c.in-Got.n c.take_piece.new.buf.items = c.first_of-piece.ensures in
    let size : length bytes ≡ c.in-Got.n = ap length is ∙ length-take-le c.in-Got.n c.take_piece.new.buf.items (omega (arith, c.in-Got.ensures.within.1, c.take_piece.ensures.room, c.pieces.invariant.room, c.room_of-room.ensures.fits)) in
    let front : TakesOff (take c.in-Got.n c.take_piece.new.buf.items) before took = record { given = c.in-Got.ensures.given; left = c.in-Got.ensures.left } in
    let takes : TakesOff bytes before last = TakesOff-same bytes before took last (subst (λ (xs : List ℕ). TakesOff xs before took) (sym is) front) c.in-WriteFault.ensures.given c.in-WriteFault.ensures.left in
    let same_ends : last.ends ≡ before.ends = c.in-WriteFault.ensures.ends ∙ c.in-Got.ensures.ends in
    Serving-write_fault g.C.Conversation.talk _ (g.C.Conversation.reads c.args.talk.now) _ _ c.pieces.count c.args.limit _ (g.C.Conversation.reads c.pieces.talk) (Serving-at g.C.Conversation.talk _ (g.C.Conversation.reads c.args.talk.now) _ _ c.pieces.count _ (g.C.Conversation.reads c.pieces.talk) (g.I.Ends.written c.take_piece.new.io) c.in-Got.ensures.written c.pieces.invariant.serving)
    bytes last takes _ c.in-WriteFault.ensures.drained.0 same_ends (omega (arith, size, c.in-Got.ensures.within.1, c.room_of-room.ensures.within, c.pieces.invariant.within, c.pieces-test.true)) (omega (arith, size, c.in-Got.ensures.within.1, c.room_of-room.ensures.fits)) c.in-WriteFault.ensures.drained.1 c.in-WriteFault.ensures.drained.2

pub returns-in-NoMemory-clause-conversed : goal.returns-in-NoMemory-clause-conversed
returns-in-NoMemory-clause-conversed g c =
    let before : Input = record { given = g.I.Ends.given c.pieces.io; left = g.I.Ends.left c.pieces.io; ends = g.I.Ends.ends c.pieces.io } in
    let took : Input = record { given = g.I.Ends.given c.take_piece.new.io; left = g.I.Ends.left c.take_piece.new.io; ends = g.I.Ends.ends c.take_piece.new.io } in
    let last : Input = record { given = g.I.Ends.given c.answer_piece.new.io; left = g.I.Ends.left c.answer_piece.new.io; ends = g.I.Ends.ends c.answer_piece.new.io } in
    let bytes : List ℕ = c.first_of-piece.result.now in
    let is : bytes ≡ take c.in-Got.n c.take_piece.new.buf.items = c.first_of-piece.ensures in
    let size : length bytes ≡ c.in-Got.n = ap length is ∙ length-take-le c.in-Got.n c.take_piece.new.buf.items (omega (arith, c.in-Got.ensures.within.1, c.take_piece.ensures.room, c.pieces.invariant.room, c.room_of-room.ensures.fits)) in
    let front : TakesOff (take c.in-Got.n c.take_piece.new.buf.items) before took = record { given = c.in-Got.ensures.given; left = c.in-Got.ensures.left } in
    let takes : TakesOff bytes before last = TakesOff-same bytes before took last (subst (λ (xs : List ℕ). TakesOff xs before took) (sym is) front) c.in-NoMemory.ensures.given c.in-NoMemory.ensures.left in
    let same_ends : last.ends ≡ before.ends = c.in-NoMemory.ensures.ends ∙ c.in-Got.ensures.ends in
    Serving-no_memory g.C.Conversation.talk _ (g.C.Conversation.reads c.args.talk.now) _ _ c.pieces.count c.args.limit _ (g.C.Conversation.reads c.pieces.talk) (Serving-at g.C.Conversation.talk _ (g.C.Conversation.reads c.args.talk.now) _ _ c.pieces.count _ (g.C.Conversation.reads c.pieces.talk) (g.I.Ends.written c.take_piece.new.io) c.in-Got.ensures.written c.pieces.invariant.serving)
    bytes last takes _ c.in-NoMemory.ensures.drained.0 (omega (arith, size, c.in-Got.ensures.within.1, c.room_of-room.ensures.within, c.pieces.invariant.within, c.pieces-test.true)) (omega (arith, size, c.in-Got.ensures.within.1, c.room_of-room.ensures.fits)) c.in-NoMemory.ensures.drained.1

pub returns-clause-conversed : goal.returns-clause-conversed
returns-clause-conversed g c =
    Serving-too_long g.C.Conversation.talk _ (g.C.Conversation.reads c.args.talk.now) _ _ c.pieces.count c.args.limit _ (g.C.Conversation.reads c.pieces.talk) c.pieces.invariant.serving
    _ (TakesOff-none _) refl (omega (arith, c.pieces-test.false, c.pieces.invariant.within))

pub prove-unreachable-requires : goal.prove-unreachable-requires
prove-unreachable-requires g c = let yes : c.is_empty.result ≡ true = c.is_empty.ensures c.pieces.invariant.gathered in cc
