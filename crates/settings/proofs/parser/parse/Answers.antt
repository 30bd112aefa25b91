use Rattle.std.proofs.Common.{◌≡◌, ◌∙◌, [], true, false, true≢false, sym, ap, subst, drop, map, string_bytes, List, ℕ, Option, Some, None, MatchResult, unwrap_or, option_map}
use Rattle.clap.specs.Walk.{rows_of}
use Rattle.clap.specs.Matches.{found_of}
use Rattle.clap.specs.Simple.{app_of}
use Rattle.clap.specs.declared.error.kind.ErrorKind.{ErrorKind}
use Rattle.clap.specs.declared.error.kind.ErrorKind.TheVariants.{OutOfMemory}
use denote.Enum.Bare.{sameb}
use Rattle.clap.specs.contracts.error.kind.ErrorKind.{the_type}
use Rattle.settings.specs.declared.words.WordsFault.TheVariants.{Refused}
use Rattle.settings.specs.Values.{GivenValues}
use Rattle.settings.specs.Parser.{pairs_in}
use Rattle.settings.proofs.Walks.{row_of_pair}
use Rattle.settings.proofs.Parses.{is_refused, is_parsed, rows_parsed, said_by_rows, said_by_none}
use Rattle.settings.proofs.parser.parse.Goals as goal

pub returns-in-Some : goal.returns-in-Some
returns-in-Some c =
    let texts : List (List ℕ) = map string_bytes c.args.words.now in
    let pairs = pairs_in c.args.command (drop 1 texts) in
    let app = app_of c.in_ok-program.program in
    let whole = is_parsed c.args.command texts app c.in_ok-program.ensures c.requires.label c.requires.spelled c.in-Ok.ensures.kinds in
    let met = rows_parsed c.args.command texts app c.in_ok-program.ensures c.requires.label c.requires.spelled c.in-Ok.matches whole c.in-Ok.ensures.matches in
    let same : Some (rows_of (found_of c.in-Some.found.now)) ≡ Some (map row_of_pair pairs) = c.in-Some.ensures.rows ∙ ap (option_map (λ p. p.1)) met in
    let rows : rows_of (found_of c.in-Some.found.now) ≡ map row_of_pair pairs = ap (λ o. unwrap_or o []) same in
    subst (λ (o : Option GivenValues). MatchResult c.given_in.result (λ given. o ≡ Some given) (λ e. e ≡ Refused → o ≡ None))
    (said_by_rows c.args.command (found_of c.in-Some.found.now) pairs whole rows) c.given_in.ensures

pub unreachable-requires : goal.unreachable-requires
unreachable-requires c =
    let texts : List (List ℕ) = map string_bytes c.args.words.now in
    let app = app_of c.in_ok-program.program in
    let whole = is_parsed c.args.command texts app c.in_ok-program.ensures c.requires.label c.requires.spelled c.in-Ok.ensures.kinds in
    let met = rows_parsed c.args.command texts app c.in_ok-program.ensures c.requires.label c.requires.spelled c.in-Ok.matches whole c.in-Ok.ensures.matches in
    let none = c.in-None.ensures.rows ∙ ap (option_map (λ p. p.1)) met in
    absurd (cc)

pub returns : goal.returns
returns c e =
    let texts : List (List ℕ) = map string_bytes c.args.words.now in
    let other : c.kind.result ≡ OutOfMemory → false ≡ true = λ same. c.if-eq.ensures ∙ ap (λ (k : ErrorKind). sameb the_type k OutOfMemory) same in
    said_by_none c.args.command (pairs_in c.args.command (drop 1 texts))
    (is_refused c.args.command texts (app_of c.in_ok-program.program) c.in_ok-program.ensures c.requires.label c.requires.spelled c.in-Err.error c.in-Err.ensures.kinds
    (λ h. true≢false (sym (other (c.kind.ensures ∙ h)))))
