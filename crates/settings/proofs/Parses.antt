-- What a parse of checked words gives, and when it fails.
use Rattle.std.proofs.Common.{◌≡◌, ◌≢◌, ◌∙◌, ◌&&◌, ◌||◌, Bool, true, false, not, refl, sym, ap, ap₂, List, [], ◌∷◌, ◌++◌, map, drop, inl, inr, Option, Some, None, true≢false, append-nil, append_assoc}
use Rattle.std.specs.List.{fold, list_any}
use Rattle.std.specs.Option.{is_some, unwrap_or}
use Rattle.std.specs.Str.{bytes_eq}
use Rattle.std.proofs.Math.Bool.{and-true}
use Rattle.std.proofs.lemmas.List.{map-append}
use Rattle.clap.specs.Walk.{Held, Names, Row, Walk, walk, walk_from, walked, nothing_held, settled, has_row, with_default, finished, first_of}
use Rattle.clap.specs.Simple.{App, Shape, built, is_simple, subcommand_of, entered, names_of as names_of_app}
use Rattle.clap.specs.Kinds.{Kinds, or_else, check_kinds}
use Rattle.clap.specs.Takes.{is_given}
use Rattle.clap.specs.Faults.{walk_fault, settle_fault, defaults_fault, check_fault, level_fault, turn_fault, entered_fault, fault_of, is_simple_and_free}
use Rattle.settings.specs.Words.{Bytes, Pair, is_listed, names_of, named_options, pairs_of, is_new, value_of, has_needed, is_whole, given_said, given_by_pairs}
use Rattle.settings.proofs.ReadingLemmas.{given_said-same}
use Rattle.settings.specs.Spelling.{is_spelled}
use Rattle.settings.specs.Table.{command_name}
use Rattle.clap.specs.Kinds.{HasKind, IsAmong}
use Rattle.clap.specs.Simple.{HasMatchesOf, subcommand_rows_of}
use Rattle.clap.specs.Matches.{first_value}
use Rattle.clap.specs.Values.{kind_of}
use Rattle.clap.specs.Walk.{rows_of}
use Rattle.clap.specs.declared.error.Error.{Error}
use Rattle.clap.specs.declared.error.kind.ErrorKind.{ErrorKind}
use Rattle.clap.specs.declared.error.kind.ErrorKind.TheVariants.{OutOfMemory}
use Rattle.clap.specs.declared.parser.matches.ArgMatches.{ArgMatches}
use Rattle.clap.specs.declared.parser.matches.Found.{Found}
use Rattle.clap.proofs.WalkLemmas.{first_value-rows}
use Rattle.std.proofs.lemmas.Bool.{and_parts}
use Rattle.settings.specs.Parser.{program_app, pairs_in}
use Rattle.settings.specs.declared.table.Command.{Command}
use Rattle.settings.specs.declared.table.Command.TheVariants.{Run, Serve, Load, Node, Files, Watch}
use Rattle.settings.proofs.Walks.{option_rule, option_rules, leaf, row_of_pair, with_use, use_added, clear, clear-or_else, is_fresh, uses, over}

-- ---- rows and pairs

named_in : (name : Bytes) (seen : List Pair) → has_row name (map row_of_pair seen) ≡ is_listed (map (λ p. p.0) seen) name
named_in name [] = refl
named_in name (p ∷ seen) = ap (λ b. bytes_eq p.0 name || b) (named_in name seen)

fresh_new : (seen ps : List Pair) → is_fresh (map row_of_pair seen) ps ≡ is_new (map (λ p. p.0) seen) ps
fresh_new seen [] = refl
fresh_new seen (p ∷ ps) = go (has_row p.0 (map row_of_pair seen)) refl (fresh_new (seen ++ p ∷ []) ps)
  where
    go : (b : Bool) → has_row p.0 (map row_of_pair seen) ≡ b
        → is_fresh (map row_of_pair (seen ++ p ∷ [])) ps ≡ is_new (map (λ q. q.0) (seen ++ p ∷ [])) ps
        → is_fresh (map row_of_pair seen) (p ∷ ps) ≡ is_new (map (λ q. q.0) seen) (p ∷ ps)
    go true e rest = rw (← named_in p.0 seen, e) refl
    go false e rest =
        let joined = use_added p (map row_of_pair seen) e ∙ sym (map-append row_of_pair seen (p ∷ [])) in
        let front = map-append (λ (q : Pair). q.0) seen (p ∷ []) in
        rw (← named_in p.0 seen, e, joined, ← front) rest

uses_fresh : (seen ps : List Pair) → is_fresh (map row_of_pair seen) ps ≡ true → uses (map row_of_pair seen) ps ≡ map row_of_pair (seen ++ ps)
uses_fresh seen [] h = ap (map row_of_pair) (sym (append-nil seen))
uses_fresh seen (p ∷ ps) h = go (has_row p.0 (map row_of_pair seen)) refl h (uses_fresh (seen ++ p ∷ []) ps)
  where
    go : (b : Bool) → has_row p.0 (map row_of_pair seen) ≡ b → (not b && is_fresh (with_use p (map row_of_pair seen)) ps) ≡ true
        → (is_fresh (map row_of_pair (seen ++ p ∷ [])) ps ≡ true → uses (map row_of_pair (seen ++ p ∷ [])) ps ≡ map row_of_pair ((seen ++ p ∷ []) ++ ps))
        → uses (with_use p (map row_of_pair seen)) ps ≡ map row_of_pair (seen ++ p ∷ ps)
    go true e k rest = absurd (true≢false (sym k))
    go false e k rest =
        let joined = use_added p (map row_of_pair seen) e ∙ sym (map-append row_of_pair seen (p ∷ [])) in
        ap (λ rows. uses rows ps) joined ∙ rest (sym (ap (λ rows. is_fresh rows ps) joined) ∙ k) ∙ ap (map row_of_pair) (append_assoc seen (p ∷ []) ps)

pub value_in : (name : Bytes) (ps : List Pair) → first_of name (map row_of_pair ps) ≡ value_of name ps
value_in name [] = refl
value_in name (p ∷ ps) = go (bytes_eq p.0 name) refl (value_in name ps)
  where
    go : (b : Bool) → bytes_eq p.0 name ≡ b → first_of name (map row_of_pair ps) ≡ value_of name ps → first_of name (map row_of_pair (p ∷ ps)) ≡ value_of name (p ∷ ps)
    go true e rest = rw e refl
    go false e rest = rw e rest

given_in : (name : Bytes) (ps : List Pair) → is_given name (map row_of_pair ps) ≡ is_some (value_of name ps)
given_in name [] = refl
given_in name (p ∷ ps) = go (bytes_eq p.0 name) refl (given_in name ps)
  where
    go : (b : Bool) → bytes_eq p.0 name ≡ b → is_given name (map row_of_pair ps) ≡ is_some (value_of name ps) → is_given name (map row_of_pair (p ∷ ps)) ≡ is_some (value_of name (p ∷ ps))
    go true e rest = rw e refl
    go false e rest = rw e rest

needs : (options : List (Bytes × Bool)) (ps : List Pair) → not (list_any (λ a. a.required && not (is_given a.id (map row_of_pair ps))) (option_rules options)) ≡ has_needed options ps
needs [] ps = refl
needs (o ∷ options) ps = rw given_in (go o.1 (is_some (value_of o.0 ps)) _ _ (needs options ps))
  where
    go : (b g any all : Bool) → not any ≡ all → not ((b && not g) || any) ≡ ((not b || g) && all)
    go true true any all e = e
    go true false any all e = refl
    go false g any all e = e

-- ---- the end of a subcommand's walk

no_defaults : (rows : List Row) (options : List (Bytes × Bool)) → fold with_default rows (option_rules options) ≡ rows
no_defaults rows [] = refl
no_defaults rows (o ∷ options) = go (has_row o.0 rows) refl (no_defaults rows options)
  where
    go : (b : Bool) → has_row o.0 rows ≡ b → fold with_default rows (option_rules options) ≡ rows → fold with_default (with_default rows (option_rule o)) (option_rules options) ≡ rows
    go true e rest = rw e rest
    go false e rest = rw e rest

no_default_fault : (rows : List Row) (options : List (Bytes × Bool)) → defaults_fault rows (option_rules options) ≡ []
unfolding defaults_fault
no_default_fault rows [] = refl
no_default_fault rows (o ∷ options) = go (has_row o.0 rows) refl (no_default_fault rows options)
  where
    go : (b : Bool) → has_row o.0 rows ≡ b → defaults_fault rows (option_rules options) ≡ [] → defaults_fault rows (option_rules (o ∷ options)) ≡ []
    go true e rest = rw e rest
    go false e rest = rw e rest

-- no option of a command has the empty name
no_empty_name : (command : Command) (name : Bytes) → is_listed (names_of command) name ≡ true → name ≢ []
no_empty_name Run name h e = let bad : true ≡ false = sym h ∙ ap (is_listed (names_of Run)) e in absurd (true≢false bad)
no_empty_name Serve name h e = let bad : true ≡ false = sym h ∙ ap (is_listed (names_of Serve)) e in absurd (true≢false bad)
no_empty_name Load name h e = let bad : true ≡ false = sym h ∙ ap (is_listed (names_of Load)) e in absurd (true≢false bad)
no_empty_name Node name h e = let bad : true ≡ false = sym h ∙ ap (is_listed (names_of Node)) e in absurd (true≢false bad)
no_empty_name Files name h e = let bad : true ≡ false = sym h ∙ ap (is_listed (names_of Files)) e in absurd (true≢false bad)
no_empty_name Watch name h e = let bad : true ≡ false = sym h ∙ ap (is_listed (names_of Watch)) e in absurd (true≢false bad)

abbrev sub_of : Command → Shape
sub_of command = leaf (command_name command) (named_options command)

module _ (command : Command) (words : List Bytes) (ps : List Pair) (spelled : pairs_of (names_of command) words None ≡ Some ps) where
  abbrev sub : Shape
  sub = sub_of command

  abbrev end : Held
  end = (walk sub.rules [] nothing_held words).held

  rows_at_end : finished sub.rules end ≡ uses [] ps
  rows_at_end = no_defaults _ (named_options command) ∙ (over (command_name command) (named_options command) (no_empty_name command) words None nothing_held ps spelled tt).1

  -- the subcommand's rows, where no option is given twice
  pub rows_are : is_new [] ps ≡ true → finished sub.rules end ≡ map row_of_pair ps
  rows_are new = rows_at_end ∙ uses_fresh [] ps (fresh_new [] ps ∙ new)

  both_clear : (w s f c n : Bool) → (w && s) ≡ f → (f ≡ true → c ≡ n) → (w && (s && c)) ≡ (f && n)
  both_clear true true true c n e k = k refl
  both_clear true true false c n e k = absurd (true≢false e)
  both_clear true false true c n e k = absurd (true≢false (sym e))
  both_clear true false false c n e k = refl
  both_clear false s true c n e k = absurd (true≢false (sym e))
  both_clear false s false c n e k = refl

  missing_clear : (b : Bool) → clear (check_kinds false false b) ≡ not b
  missing_clear true = refl
  missing_clear false = refl

  check_clear : is_new [] ps ≡ true → clear (check_fault sub (finished sub.rules end) false) ≡ has_needed (named_options command) ps
  check_clear new = ap (λ rows. clear (check_fault sub rows false)) (rows_are new) ∙ missing_clear _ ∙ needs (named_options command) ps

  -- the subcommand takes the words just where no option is given twice and none that is needed is missing
  level_clear : clear (level_fault sub [] nothing_held words false []) ≡ (is_new [] ps && has_needed (named_options command) ps)
  level_clear =
      let goes = over (command_name command) (named_options command) (no_empty_name command) words None nothing_held ps spelled tt in
      let walked_clear = sym (clear-or_else (walk_fault sub [] (walk_from nothing_held) words) (settle_fault sub.rules false end)) ∙ goes.0 ∙ fresh_new [] ps in
      rw (clear-or_else, no_default_fault, clear-or_else) (both_clear _ _ _ _ _ walked_clear check_clear)

-- ---- the walk that meets the subcommand

abbrev top : Shape
top = (built program_app).top

abbrev subs : Names
subs = names_of_app (built program_app)

pub simple : is_simple_and_free program_app ≡ true
simple = refl

-- once a subcommand was met, the other words are its words
stopped_at : (w : Walk) (name : Bytes) (xs words : List Bytes)
    → (walk_fault top subs (record w { stopped = Some (name, xs) }) words ≡ [])
    × (fold (walked [] subs) (record w { stopped = Some (name, xs) }) words ≡ record w { stopped = Some (name, xs ++ words) })
unfolding walk_fault walked
stopped_at w name xs [] = (refl, ap (λ (ys : List Bytes). record w { stopped = Some (name, ys) }) (sym (append-nil xs)))
stopped_at w name xs (word ∷ words) =
    let rest = stopped_at w name (xs ++ word ∷ []) words in
    (rest.0, rest.1 ∙ ap (λ (ys : List Bytes). record w { stopped = Some (name, ys) }) (append_assoc xs (word ∷ []) words))

met : (command : Command) → (turn_fault top subs (walk_from nothing_held) (command_name command) ≡ [])
    × (walked [] subs (walk_from nothing_held) (command_name command) ≡ record (walk_from nothing_held) { stopped = Some (command_name command, []) })
unfolding walked
met Run = (refl, refl)
met Serve = (refl, refl)
met Load = (refl, refl)
met Node = (refl, refl)
met Files = (refl, refl)
met Watch = (refl, refl)

abbrev stopped_walk : Command → List Bytes → Walk
stopped_walk command words = record (walk_from nothing_held) { stopped = Some (command_name command, words) }

top_walk : (command : Command) (words : List Bytes) → fold (walked [] subs) (walk_from nothing_held) (command_name command ∷ words) ≡ stopped_walk command words
top_walk command words =
    ap (λ (w : Walk). fold (walked [] subs) w words) (met command).1 ∙ (stopped_at (walk_from nothing_held) (command_name command) [] words).1

top_fault : (command : Command) (words : List Bytes) → walk_fault top subs (walk_from nothing_held) (command_name command ∷ words) ≡ []
unfolding walk_fault
top_fault command words =
    ap₂ or_else (met command).0 (ap (λ (w : Walk). walk_fault top subs w words) (met command).1 ∙ (stopped_at (walk_from nothing_held) (command_name command) [] words).0)

abbrev fault_by : Walk → Kinds → Kinds
fault_by w f = or_else f (or_else (entered_fault (built program_app) w.stopped)
    (or_else (settle_fault [] false w.held)
    (or_else (defaults_fault (settled [] w.held).rows [])
    (check_fault top (finished [] w.held) (is_some (entered (built program_app) w.stopped))))))

fault_here : (command : Command) (words : List Bytes) → clear (fault_by (stopped_walk command words) []) ≡ clear (level_fault (sub_of command) [] nothing_held words false [])
unfolding defaults_fault
fault_here Run words = clear-or_else (level_fault (sub_of Run) [] nothing_held words false []) [] ∙ and-true _
fault_here Serve words = clear-or_else (level_fault (sub_of Serve) [] nothing_held words false []) [] ∙ and-true _
fault_here Load words = clear-or_else (level_fault (sub_of Load) [] nothing_held words false []) [] ∙ and-true _
fault_here Node words = clear-or_else (level_fault (sub_of Node) [] nothing_held words false []) [] ∙ and-true _
fault_here Files words = clear-or_else (level_fault (sub_of Files) [] nothing_held words false []) [] ∙ and-true _
fault_here Watch words = clear-or_else (level_fault (sub_of Watch) [] nothing_held words false []) [] ∙ and-true _

rows_here : (command : Command) (words : List Bytes) → entered (built program_app) (Some (command_name command, words))
    ≡ Some (command_name command, finished (sub_of command).rules (walk (sub_of command).rules [] nothing_held words).held)
rows_here Run words = refl
rows_here Serve words = refl
rows_here Load words = refl
rows_here Node words = refl
rows_here Files words = refl
rows_here Watch words = refl

module _ (command : Command) (words : List Bytes) (ps : List Pair) (spelled : pairs_of (names_of command) words None ≡ Some ps) where
  -- the parse has no fault just where no option is given twice and none that is needed is missing
  pub parse_clear : clear (fault_of program_app (command_name command ∷ words)) ≡ (is_new [] ps && has_needed (named_options command) ps)
  parse_clear =
      ap clear (ap₂ fault_by (top_walk command words) (top_fault command words))
      ∙ fault_here command words ∙ level_clear command words ps spelled

  -- the subcommand's rows are the pairs
  pub parse_rows : is_new [] ps ≡ true → subcommand_of program_app (command_name command ∷ words) ≡ Some (command_name command, map row_of_pair ps)
  parse_rows new =
      ap (λ (w : Walk). entered (built program_app) w.stopped) (top_walk command words)
      ∙ rows_here command words ∙ ap (λ (rows : List Row). Some (command_name command, rows)) (rows_are command words ps spelled new)

-- ---- what the parser's answers say of the words

pub some_is : {X : Type 0} (o : Option X) (d : X) → is_some o ≡ true → o ≡ Some (unwrap_or o d)
some_is None d e = absurd (true≢false (sym e))
some_is (Some x) d e = refl

not_clear : (k : ErrorKind) (kinds : Kinds) → IsAmong k kinds → clear kinds ≡ false
not_clear k [] h = absurd h
not_clear k (x ∷ kinds) h = refl

module _ (command : Command) (texts : List Bytes) (a : App) (app : a ≡ program_app) (label : texts ≡ command_name command ∷ drop 1 texts)
    (spelled : is_spelled (names_of command) (drop 1 texts) false ≡ true) where
  pairs_are : pairs_of (names_of command) (drop 1 texts) None ≡ Some (pairs_in command (drop 1 texts))
  pairs_are = some_is (pairs_of (names_of command) (drop 1 texts) None) [] spelled

  whole_is : clear (fault_of a texts) ≡ is_whole command (pairs_in command (drop 1 texts))
  whole_is = ap₂ (λ (b : App) (ws : List Bytes). clear (fault_of b ws)) app label ∙ parse_clear command (drop 1 texts) (pairs_in command (drop 1 texts)) pairs_are

  pub is_refused : (e : Error) → (is_simple_and_free a ≡ true → HasKind (fault_of a texts) e) → (kind_of e ≡ OutOfMemory → ⊥) → is_whole command (pairs_in command (drop 1 texts)) ≡ false
  is_refused e kinds other = elim (kinds (ap is_simple_and_free app ∙ simple)) [
    | inl memory ↦ absurd (other memory)
    | inr among ↦ sym whole_is ∙ not_clear (kind_of e) (fault_of a texts) among
  ]

  pub is_parsed : (is_simple_and_free a ≡ true → fault_of a texts ≡ []) → is_whole command (pairs_in command (drop 1 texts)) ≡ true
  is_parsed kinds = sym whole_is ∙ ap clear (kinds (ap is_simple_and_free app ∙ simple))

  pub rows_parsed : (m : ArgMatches) → is_whole command (pairs_in command (drop 1 texts)) ≡ true → HasMatchesOf a texts m
      → subcommand_rows_of m ≡ Some (command_name command, map row_of_pair (pairs_in command (drop 1 texts)))
  rows_parsed m whole matches =
      (matches (ap is_simple app)).1 ∙ ap₂ subcommand_of app label
      ∙ parse_rows command (drop 1 texts) (pairs_in command (drop 1 texts)) pairs_are (and_parts _ _ whole).0

pub value_found : (f : Found) (name : Bytes) (ps : List Pair) → rows_of f ≡ map row_of_pair ps → first_value f name ≡ value_of name ps
value_found f name ps rows = first_value-rows f name ∙ ap (first_of name) rows ∙ value_in name ps

-- what the options say, where the parser's rows are their pairs
pub said_by_rows : (command : Command) (f : Found) (ps : List Pair) → is_whole command ps ≡ true → rows_of f ≡ map row_of_pair ps
    → given_said (first_value f) ≡ given_by_pairs command ps
said_by_rows command f ps whole rows =
    given_said-same (first_value f) (λ name. value_of name ps) (λ name. value_found f name ps rows) ∙ sym (rw whole refl)

pub said_by_none : (command : Command) (ps : List Pair) → is_whole command ps ≡ false → given_by_pairs command ps ≡ None
said_by_none command ps other = rw other refl
