use Rattle.std.proofs.Common.{◌≡◌, ◌<◌, ◌≤◌, ℕ, ◌++◌, ◌∷◌, [], length, get_or, sym, ◌∙◌, ap, arith}
use Rattle.snapshot.specs.Versions.{Version}
use Rattle.range_reader.specs.Opened.{place_of}
use Rattle.range_reader.proofs.KeptPlaces.{keeps_newer, keeps_older, keeps_more, keeps_last, then_found}
use Rattle.range_reader.proofs.opened.Opened.keep.Goals.{then-at-eq-MOST, else-at-eq-MOST}
use Rattle.range_reader.proofs.opened.Opened.keep.Goals as goal

pub returns-then-version-clause-kept : goal.returns-then-version-clause-kept
returns-then-version-clause-kept c =
    let items = c.self.inside.kept.items in
    let v = c.args.snapshot in
    let is : c.place_of-at.result ≡ place_of v.blob items = c.place_of-at.ensures.place ∙ (ap (λ (b : ℕ). place_of b c.args.self.now) c.blob.ensures ∙ ap (place_of v.blob) (sym c.self.view_is)) in
    let older : length (get_or items c.place_of-at.result c.index.result.now).rows < length v.rows =
    omega (arith, c.if-version.true, c.version.ensures.count, c.version-then-at-len.ensures.count, ap (λ (x : Version). length x.rows) c.index.ensures) in
    rw (← c.self.view_is) (keeps_newer items v c.index.result.now c.place_of-at.result (omega arith) is (omega arith) older)

pub returns-else-version-clause-kept : goal.returns-else-version-clause-kept
returns-else-version-clause-kept c =
    let items = c.self.inside.kept.items in
    let v = c.args.snapshot in
    let is : c.place_of-at.result ≡ place_of v.blob items = c.place_of-at.ensures.place ∙ (ap (λ (b : ℕ). place_of b c.args.self.now) c.blob.ensures ∙ ap (place_of v.blob) (sym c.self.view_is)) in
    let newer : length v.rows ≤ length (get_or items c.place_of-at.result c.index.result.now).rows =
    omega (arith, c.if-version.false, c.version.ensures.count, c.version-then-at-len.ensures.count, ap (λ (x : Version). length x.rows) c.index.ensures) in
    rw (← c.self.view_is) (keeps_older items v c.index.result.now c.place_of-at.result (omega arith) is (omega arith) newer)

pub returns-clause-kept : goal.returns-clause-kept
returns-clause-kept c =
    let items = c.self.inside.kept.items in
    let v = c.args.snapshot in
    let is : c.place_of-at.result ≡ place_of v.blob items = c.place_of-at.ensures.place ∙ (ap (λ (b : ℕ). place_of b c.args.self.now) c.blob.ensures ∙ ap (place_of v.blob) (sym c.self.view_is)) in
    let past : length items ≤ place_of v.blob items = omega (arith, is, c.len.ensures, c.if-at-len.false) in
    let bound : c.place_of-at.result ≤ length items = omega (arith, c.place_of-at.ensures.bound, ap length c.self.view_is) in
    elim c.if-at-eq-MOST.branch [
      | then-at-eq-MOST w ↦
          let full : length items ≡ 4 = omega (arith, bound, c.if-at-len.false, c.len.ensures, w.if-at-eq-MOST.true) in
          rw (← c.self.view_is) (c.push_reserved.ensures.items
          ∙ (ap (λ s. s.kept.items ++ v ∷ []) w.self-inside-is ∙ (ap (λ l. l ++ v ∷ []) w.remove-first.ensures.items ∙ keeps_last items v full past)))
      | else-at-eq-MOST w ↦
          let few : length items < 4 = omega (arith, bound, c.self.invariant.0, c.if-at-len.false, c.len.ensures, w.if-at-eq-MOST.false) in
          rw (← c.self.view_is) (c.push_reserved.ensures.items ∙ (ap (λ s. s.kept.items ++ v ∷ []) w.self-inside-is ∙ keeps_more items v few past))
    ]

pub returns-then-version-clause-found : goal.returns-then-version-clause-found
returns-then-version-clause-found c = then_found c.args.self.now _ c.args.snapshot (omega (arith, c.self.invariant.0, ap length c.self.view_is)) (returns-then-version-clause-kept c)

pub returns-else-version-clause-found : goal.returns-else-version-clause-found
returns-else-version-clause-found c = then_found c.args.self.now _ c.args.snapshot (omega (arith, c.self.invariant.0, ap length c.self.view_is)) (returns-else-version-clause-kept c)

pub returns-clause-found : goal.returns-clause-found
returns-clause-found c = then_found c.args.self.now _ c.args.snapshot (omega (arith, c.self.invariant.0, ap length c.self.view_is)) (returns-clause-kept c)
