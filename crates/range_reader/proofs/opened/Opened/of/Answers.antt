use Rattle.std.proofs.Common.{◌≡◌, ◌<◌, ◌≤◌, List, length, nat_le, true, false, refl, sym, ◌∙◌, ap, subst, arith}
use Rattle.std.proofs.lemmas.Bool.Decides.{nat_tests}
use Rattle.std.proofs.lemmas.Option.{slice_get_read}
use Rattle.snapshot.specs.Versions.{Version}
use Rattle.range_reader.specs.Opened.{Covers, place_of}
use Rattle.range_reader.proofs.KeptPlaces.{none_opened, some_opened}
use Rattle.range_reader.proofs.opened.Opened.of.Goals as goal

pub returns-then-at-len-clause-found : goal.returns-then-at-len-clause-found
returns-then-at-len-clause-found c =
    let past : length c.args.self.now ≤ place_of c.args.blob c.args.self.now = omega (arith, c.place_of-at.ensures.place, c.len.ensures, c.if-at-len.true, ap length c.self.view_is) in
    sym (none_opened c.args.blob c.args.version c.args.self.now past)

pub returns-then-version-clause-found : goal.returns-then-version-clause-found
returns-then-version-clause-found c =
    let v = c.index-snapshot.result.now in
    let items = c.self.inside.kept.items in
    let is : c.place_of-at.result ≡ place_of c.args.blob items = c.place_of-at.ensures.place ∙ ap (place_of c.args.blob) (sym c.self.view_is) in
    let less : c.place_of-at.result < length items = omega (arith, c.place_of-at.ensures.bound, ap length c.self.view_is, c.len.ensures, c.if-at-len.false) in
    let found = some_opened c.args.blob c.args.version items v c.place_of-at.result is less in
    let reaches : nat_le c.args.version (length v.rows) ≡ true = grind (arith, nat_tests, c.version.ensures.count, c.if-version.true) in
    rw (← c.self.view_is) (sym (found.1 ∙ (ap (λ (x : Version). nat_le c.args.version (length x.rows)) (sym c.index-snapshot.ensures) ∙ reaches)))

pub returns-then-version-clause-covers : goal.returns-then-version-clause-covers
returns-then-version-clause-covers c =
    let v = c.index-snapshot.result.now in
    let items = c.self.inside.kept.items in
    let is : c.place_of-at.result ≡ place_of c.args.blob items = c.place_of-at.ensures.place ∙ ap (place_of c.args.blob) (sym c.self.view_is) in
    let less : c.place_of-at.result < length items = omega (arith, c.place_of-at.ensures.bound, ap length c.self.view_is, c.len.ensures, c.if-at-len.false) in
    let found = some_opened c.args.blob c.args.version items v c.place_of-at.result is less in
    subst (λ (vs : List Version). Covers vs c.args.blob c.args.version v) c.self.view_is (record {
      index = c.place_of-at.result;
      is = slice_get_read items (length items) c.place_of-at.result v refl less c.index-snapshot.ensures;
      blob_is = ap (λ (x : Version). x.blob) c.index-snapshot.ensures ∙ found.0;
      reaches = omega (arith, c.version.ensures.count, c.if-version.true);
    })

pub returns-else-version-clause-found : goal.returns-else-version-clause-found
returns-else-version-clause-found c =
    let v = c.index-snapshot.result.now in
    let items = c.self.inside.kept.items in
    let is : c.place_of-at.result ≡ place_of c.args.blob items = c.place_of-at.ensures.place ∙ ap (place_of c.args.blob) (sym c.self.view_is) in
    let less : c.place_of-at.result < length items = omega (arith, c.place_of-at.ensures.bound, ap length c.self.view_is, c.len.ensures, c.if-at-len.false) in
    let found = some_opened c.args.blob c.args.version items v c.place_of-at.result is less in
    let short : nat_le c.args.version (length v.rows) ≡ false = grind (arith, nat_tests, c.version.ensures.count, c.if-version.false) in
    rw (← c.self.view_is) (sym (found.1 ∙ (ap (λ (x : Version). nat_le c.args.version (length x.rows)) (sym c.index-snapshot.ensures) ∙ short)))
