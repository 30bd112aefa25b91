use Rattle.std.proofs.Common.{◌≡◌, ℕ, ◌+◌, ◌-◌, ◌*◌, ◌/◌, ◌<◌, ◌≤◌, ◌++◌, List, length, map, arith, ap, ◌∙◌}
use Rattle.std.specs.Prelude.{slice_range}
use Rattle.page_store.specs.Stored.{bytes_of_pages}
use Rattle.border_hints.specs.Numbered.{NumberedUpdate}
use Rattle.range_reader.proofs.Counting.{kept_twice, risen_since}
use Rattle.range_reader.proofs.Parts.{range_join}
use Rattle.range_reader.proofs.Walking.{down, up}
use Rattle.tree_weaver.specs.Anew.{OwnLost, OwnFailed}
use Rattle.tree_weaver.proofs.StoredParts.{own_since}
use Rattle.tree_weaver.proofs.folding.Folding.fetch_own.Goals as goal

-- the page of p bytes in which a byte lies, by the page size as the ticket has it
in_page : (p q from : ℕ) → p ≡ q → 1 ≤ p → (from / p * p ≡ from / p * q) × (from / p * q ≤ from) × (from < from / p * q + q)
in_page p q from same pos =
    let own : from / p * p ≡ from / p * q = ap (λ x. from / p * x) same in
    (own, omega (arith, own, down from p), omega (arith, own, same, up from p pos))

-- the page in which the bytes begin is one in which they lie
own_failed : (t : NumberedUpdate) (before now : List ℕ) (p from n : ℕ) → p ≡ t.snapshot.page_size → 1 ≤ p → 1 ≤ n → OwnLost t before now (from / p) → OwnFailed t before now from n
own_failed t before now p from n same pos some lost =
    let at = in_page p t.snapshot.page_size from same pos in
    record { number = from / p; begins = omega (arith, at, some); ends = omega (arith, at); lost = lost }

pub returns-clause-bytes : goal.returns-clause-bytes
returns-clause-bytes g c = λ ok.
    let t = c.args.self.now.ticket.now in
    let q = t.snapshot.page_size in
    let p = c.bytes-p.result in
    let from = c.args.from in
    let n = length c.args.out.now in
    let front = length c.split_at_mut-front.result.0.now in
    let back = length c.split_at_mut-front.result.1.now in
    let cut = c.split_at_mut-front.ensures.front_len in
    let at = in_page p q from (c.bytes-p.ensures.is ∙ c.page_size.ensures) (omega (arith, c.bytes-p.ensures.bounds)) in
    let bytes = bytes_of_pages t.pages.pages in
    let begin : from / p * q + (from - from / p * p) ≡ from = omega (arith, at) in
    let middle : (from / p + 1) * q + 0 ≡ from + front = omega (arith, at, cut, c.bytes-p.ensures.is, c.page_size.ensures) in
    let end : from + front + back ≡ from + n = omega (arith, cut, c.split_at_mut-front.ensures.back_len) in
    let first = c.fetch_stored-2.ensures.bytes c.if-not-fetch_stored.false ∙ ap (λ x. slice_range bytes x (x + front)) begin in
    let second = c.fetch_stored-3.ensures.bytes ok ∙ ap (λ x. slice_range bytes x (x + back)) middle ∙ ap (slice_range bytes (from + front)) end in
    ap (λ l. l ++ c.fetch_stored-3.new.out) first ∙ ap (λ l. slice_range bytes from (from + front) ++ l) second
    ∙ range_join bytes from (from + front) (from + n) (omega arith) (omega (arith, end))

pub returns-clause-failed : goal.returns-clause-failed
returns-clause-failed g c = λ lost.
    let t = c.args.self.now.ticket.now in
    let p = c.bytes-p.result in
    let from = c.args.from in
    let counts = map g.D.Door.faults in
    let same = c.bytes-p.ensures.is ∙ c.page_size.ensures in
    let at = in_page p t.snapshot.page_size from same (omega (arith, c.bytes-p.ensures.bounds)) in
    record {
      number = from / p + 1;
      begins = omega (arith, at, same, c.if-out-left.false);
      ends = omega (arith, at, same);
      lost = own_since t (counts c.args.doors.now) (counts c.fetch_stored-2.new.doors) (counts c.fetch_stored-3.new.doors) (from / p + 1)
          c.fetch_stored-2.ensures.kept.none_fell (c.fetch_stored-3.ensures.failed lost);
    }

pub returns-clause-counted : goal.returns-clause-counted
returns-clause-counted g c = λ lost.
    risen_since _ _ _ c.fetch_stored-2.ensures.kept.total (c.fetch_stored-3.ensures.counted lost)

pub returns-clause-kept : goal.returns-clause-kept
returns-clause-kept g c =
    kept_twice _ _ _ _ _ _ c.fetch_stored-2.ensures.kept c.fetch_stored-3.ensures.kept

pub returns-then-out-left-clause-bytes : goal.returns-then-out-left-clause-bytes
returns-then-out-left-clause-bytes g c = λ ok.
    let t = c.args.self.now.ticket.now in
    let p = c.bytes-p.result in
    let from = c.args.from in
    let at = in_page p t.snapshot.page_size from (c.bytes-p.ensures.is ∙ c.page_size.ensures) (omega (arith, c.bytes-p.ensures.bounds)) in
    let begin : from / p * t.snapshot.page_size + (from - from / p * p) ≡ from = omega (arith, at) in
    c.fetch_stored.ensures.bytes ok ∙ ap (λ x. slice_range (bytes_of_pages t.pages.pages) x (x + length c.args.out.now)) begin

pub returns-then-out-left-clause-failed : goal.returns-then-out-left-clause-failed
returns-then-out-left-clause-failed g c = λ lost.
    own_failed _ _ _ c.bytes-p.result c.args.from _ (c.bytes-p.ensures.is ∙ c.page_size.ensures) (omega (arith, c.bytes-p.ensures.bounds)) c.requires.some (c.fetch_stored.ensures.failed lost)

pub returns-then-not-fetch_stored-clause-failed : goal.returns-then-not-fetch_stored-clause-failed
returns-then-not-fetch_stored-clause-failed g c = λ _.
    own_failed _ _ _ c.bytes-p.result c.args.from _ (c.bytes-p.ensures.is ∙ c.page_size.ensures) (omega (arith, c.bytes-p.ensures.bounds)) c.requires.some
    (c.fetch_stored-2.ensures.failed c.if-not-fetch_stored.true)

pub fetch_stored-requires-3-clause-within : goal.fetch_stored-requires-3-clause-within
fetch_stored-requires-3-clause-within g c =
    let p = c.bytes-p.result in
    let same = c.bytes-p.ensures.is ∙ c.page_size.ensures in
    let at = in_page p c.args.self.now.ticket.now.snapshot.page_size c.args.from same (omega (arith, c.bytes-p.ensures.bounds)) in
    omega (arith, at, same, c.split_at_mut-front.ensures.front_len, c.split_at_mut-front.ensures.back_len, c.requires.within)
