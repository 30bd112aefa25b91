-- How a parse of checked words goes: each pair is one use of its option.
use Rattle.std.proofs.Common.{◌≡◌, ◌≢◌, ◌∙◌, ◌==◌, ◌&&◌, ◌||◌, Bool, cond, true, false, not, refl, sym, ap, subst, List, [], ◌∷◌, ◌++◌, map, length, Option, Some, None, option_map, true≢false, append-nil}
use Rattle.std.specs.List.{fold}
use Rattle.std.specs.Option.{option_and_then, unwrap_or}
use Rattle.std.specs.Str.{bytes_eq}
use Rattle.std.proofs.Math.Bool.{and-true, and_assoc}
use Rattle.std.proofs.lemmas.Slice.Eq.{bytes_eq-Decides}
use Rattle.clap.specs.Lexer.{long_of, short_of}
use Rattle.clap.specs.Walk.{Held, Row, Rule, Walk, option, arg_by_id, arg_by_long, settled, reacted, used, walk_from, walked, has_row, with_values, without, at_row, more_values}
use Rattle.clap.specs.Simple.{Shape}
use Rattle.clap.specs.Kinds.{Kinds, or_else}
use Rattle.clap.specs.Faults.{walk_fault, settle_fault, use_fault, turn_fault}
use Rattle.clap.specs.declared.builder.action.ArgAction.TheVariants.{Set}
use Rattle.clap.specs.declared.builder.value_parser.Reading.TheVariants.{AsWritten}
use Rattle.clap.specs.declared.builder.value_parser.ValueParser.TheVariants as vp
use Rattle.clap.specs.declared.parser.matches.ValueSource.TheVariants.{CommandLine}
use Rattle.settings.specs.Words.{Bytes, Pair, strip_hyphen, name_and_value, is_plain, with_pair, after_name, option_word, is_listed, names_in, pairs_of, at_option}

-- the rule of a built option that takes one text
abbrev pub option_rule : Bytes × Bool → Rule
option_rule o = record {
  id = o.0;
  long = Some o.0;
  aliases = [];
  short = None;
  short_aliases = [];
  index = None;
  action = Some Set;
  range = Some (record { start_inclusive = 1; end_inclusive = 1 });
  value_names = 0;
  defaults = [];
  missing = [];
  trailing_var_arg = false;
  parser = Some vp.String;
  ignore_case = false;
  required = o.1;
  is_simple = true;
  is_free = true;
}

abbrev pub option_rules : List (Bytes × Bool) → List Rule
option_rules = map option_rule

-- the built subcommand with these options
abbrev pub leaf : Bytes → List (Bytes × Bool) → Shape
leaf name options = record {
  name = name;
  aliases = [];
  rules = option_rules options;
  is_plain = true;
  is_leaf = true;
  no_binary_name = true;
  disable_help_flag = true;
  disable_help_subcommand = true;
  disable_version_flag = true;
  propagate_version = false;
  has_version = false;
  has_long_version = false;
  args_override_self = false;
  arg_required_else_help = false;
  subcommand_required = false;
  subcommand_negates_reqs = false;
  is_built = true;
}

-- ---- texts

pub same_text : (a b : Bytes) → bytes_eq a b ≡ true → a ≡ b
same_text a b h = (bytes_eq-Decides a b).0 h

pub text_itself : (a : Bytes) → bytes_eq a a ≡ true
text_itself a = (bytes_eq-Decides a a).1 refl

pub other_text : (a b : Bytes) → a ≢ b → bytes_eq a b ≡ false
other_text a b h = go (bytes_eq a b) refl
  where
    go : (v : Bool) → bytes_eq a b ≡ v → v ≡ false
    go true e = absurd (h (same_text a b e))
    go false e = refl

-- ---- words

-- a word of an option is one for the parser too
pub long_word : (word : Bytes) (o : Bytes × Option Bytes) → option_word word ≡ Some o → o.0 ≢ []
    → (long_of word ≡ Some o) × (bytes_eq word (45 ∷ 45 ∷ []) ≡ false)
long_word word o h ne = go (option_and_then strip_hyphen (strip_hyphen word)) refl h
  where
    go : (rest : Option Bytes) → option_and_then strip_hyphen (strip_hyphen word) ≡ rest → option_map name_and_value rest ≡ Some o
        → (long_of word ≡ Some o) × (bytes_eq word (45 ∷ 45 ∷ []) ≡ false)
    go None e k = absurd (cc)
    go (Some []) e k = let bad : o.0 ≡ [] = ap (λ q. (unwrap_or q o).0) (sym k) in absurd (ne bad)
    go (Some (r ∷ rs)) e k = (
      rw e k,
      other_text word (45 ∷ 45 ∷ []) (λ same. let bad : Some (r ∷ rs) ≡ Some [] = sym e ∙ ap (λ w. option_and_then strip_hyphen (strip_hyphen w)) same in absurd (cc)),
    )

-- a plain value is no flag
pub plain_value : (v : Bytes) → is_plain v ≡ true → (long_of v ≡ None) × (short_of v ≡ None) × (bytes_eq v (45 ∷ 45 ∷ []) ≡ false)
plain_value [] h = absurd (true≢false (sym h))
plain_value (b ∷ bs) h = go (b == 45) refl h
  where
    go : (x : Bool) → (b == 45) ≡ x → not x ≡ true → (long_of (b ∷ bs) ≡ None) × (short_of (b ∷ bs) ≡ None) × (bytes_eq (b ∷ bs) (45 ∷ 45 ∷ []) ≡ false)
    go true e k = absurd (true≢false (sym k))
    go false e k = (rw e refl, rw e refl, rw e refl)

-- ---- the rule of a listed option

pub rule_named : (options : List (Bytes × Bool)) (name : Bytes) → is_listed (names_in options) name ≡ true
    → (needed : Bool) × (arg_by_long (option_rules options) name ≡ Some (option_rule (name, needed)))
    × (arg_by_id (option_rules options) name ≡ Some (option_rule (name, needed)))
rule_named [] name h = absurd (true≢false (sym h))
rule_named (o ∷ options) name h = go (bytes_eq o.0 name) refl h (rule_named options name)
  where
    go : (b : Bool) → bytes_eq o.0 name ≡ b → (b || is_listed (names_in options) name) ≡ true
        → (is_listed (names_in options) name ≡ true → (needed : Bool) × (arg_by_long (option_rules options) name ≡ Some (option_rule (name, needed)))
        × (arg_by_id (option_rules options) name ≡ Some (option_rule (name, needed))))
        → (needed : Bool) × (arg_by_long (option_rules (o ∷ options)) name ≡ Some (option_rule (name, needed)))
        × (arg_by_id (option_rules (o ∷ options)) name ≡ Some (option_rule (name, needed)))
    go true e k rest =
        let same : Some (option_rule o) ≡ Some (option_rule (name, o.1)) = ap (λ (n : Bytes). Some (option_rule (n, o.1))) (same_text o.0 name e) in
        (o.1, rw e same, rw e same)
    go false e k rest = let r = rest k in (r.0, rw e r.1, rw e r.2)

-- ---- rows

-- what is held of a pair
abbrev pub row_of_pair : Pair → Row
row_of_pair p = record { id = p.0; values = p.1 ∷ []; count = None; source = Some CommandLine; reading = AsWritten }

pub row_added : (id : Bytes) (change : Row → List Row) (missing rows : List Row) → has_row id rows ≡ false → at_row id change missing rows ≡ rows ++ missing
row_added id change missing [] h = refl
row_added id change missing (r ∷ rows) h = go (bytes_eq r.id id) refl h (row_added id change missing rows)
  where
    go : (b : Bool) → bytes_eq r.id id ≡ b → (b || has_row id rows) ≡ false → (has_row id rows ≡ false → at_row id change missing rows ≡ rows ++ missing)
        → at_row id change missing (r ∷ rows) ≡ r ∷ (rows ++ missing)
    go true e k rest = absurd (true≢false k)
    go false e k rest = rw e (ap (λ rs. r ∷ rs) (rest k))

-- the rows after a pair
abbrev pub with_use : Pair → List Row → List Row
with_use p rows = used (option_rule (p.0, true)) (p.1 ∷ []) rows

pub use_added : (p : Pair) (rows : List Row) → has_row p.0 rows ≡ false → with_use p rows ≡ rows ++ row_of_pair p ∷ []
use_added p rows h =
    let gone : without p.0 rows ≡ rows = row_added p.0 (λ _. []) [] rows h ∙ append-nil rows in
    ap (λ rs. with_values p.0 AsWritten CommandLine (p.1 ∷ []) rs) gone ∙ row_added p.0 (more_values CommandLine (p.1 ∷ [])) (row_of_pair p ∷ []) rows h

-- ---- faults

abbrev pub clear : Kinds → Bool
clear [] = true
clear (k ∷ ks) = false

pub clear-or_else : (a b : Kinds) → clear (or_else a b) ≡ (clear a && clear b)
clear-or_else [] b = refl
clear-or_else (k ∷ ks) b = refl

pub use_clear : (name value : Bytes) (needed : Bool) (rows : List Row)
    → clear (use_fault false (option_rule (name, needed)) (value ∷ []) rows) ≡ not (has_row name rows)
use_clear name value needed rows = go (has_row name rows) refl
  where
    go : (b : Bool) → has_row name rows ≡ b → clear (use_fault false (option_rule (name, needed)) (value ∷ []) rows) ≡ not b
    go true e = rw e refl
    go false e = rw e refl

-- ---- the walk over the words of a subcommand

-- no pair names what a row or an earlier pair has
abbrev pub is_fresh : List Row → List Pair → Bool
is_fresh rows [] = true
is_fresh rows (p ∷ ps) = not (has_row p.0 rows) && is_fresh (with_use p rows) ps

abbrev pub uses : List Row → List Pair → List Row
uses rows [] = rows
uses rows (p ∷ ps) = uses (with_use p rows) ps

module _ (label : Bytes) (options : List (Bytes × Bool)) (named : (name : Bytes) → is_listed (names_in options) name ≡ true → name ≢ []) where
  abbrev rules_here : List Rule
  rules_here = option_rules options

  -- the rows where what waits for its use is used
  abbrev pub rows_in : Held → List Row
  rows_in h = (settled rules_here h).rows

  abbrev pub fault_in : Held → Kinds
  fault_in h = settle_fault rules_here false h

  -- before a word: nothing waits, or an option waits for its value
  abbrev pub stand : Option Bytes → Held → Walk
  stand None h = walk_from h
  stand (Some name) h = record {
    held = record (settled rules_here h) { pending = Some (name, []) };
    waiting = option name;
    position = 1;
    is_trailing = false;
    stopped = None;
  }

  -- an option with its value
  joined : (h : Held) (word name value : Bytes) (needed : Bool) → long_of word ≡ Some (name, Some value) → bytes_eq word (45 ∷ 45 ∷ []) ≡ false
      → arg_by_long rules_here name ≡ Some (option_rule (name, needed))
      → walked rules_here [] (walk_from h) word ≡ walk_from (reacted rules_here (option_rule (name, needed)) (value ∷ []) h)
  unfolding walked
  joined h word name value needed long dashes rule = rw (dashes, long, rule) refl

  joined_fault : (h : Held) (word name value : Bytes) (needed : Bool) → long_of word ≡ Some (name, Some value) → bytes_eq word (45 ∷ 45 ∷ []) ≡ false
      → arg_by_long rules_here name ≡ Some (option_rule (name, needed))
      → clear (turn_fault (leaf label options) [] (walk_from h) word) ≡ (clear (fault_in h) && not (has_row name (rows_in h)))
  joined_fault h word name value needed long dashes rule =
      rw (dashes, long, rule, clear-or_else, clear-or_else, use_clear, and-true) refl

  -- an option whose value is the next word
  begun : (h : Held) (word name : Bytes) (needed : Bool) → long_of word ≡ Some (name, None) → bytes_eq word (45 ∷ 45 ∷ []) ≡ false
      → arg_by_long rules_here name ≡ Some (option_rule (name, needed))
      → walked rules_here [] (walk_from h) word ≡ stand (Some name) h
  unfolding walked
  begun h word name needed long dashes rule = rw (dashes, long, rule) refl

  begun_fault : (h : Held) (word name : Bytes) (needed : Bool) → long_of word ≡ Some (name, None) → bytes_eq word (45 ∷ 45 ∷ []) ≡ false
      → arg_by_long rules_here name ≡ Some (option_rule (name, needed))
      → clear (turn_fault (leaf label options) [] (walk_from h) word) ≡ clear (fault_in h)
  begun_fault h word name needed long dashes rule = rw (dashes, long, rule, clear-or_else, and-true) refl

  -- the held with a value for the option that waited
  abbrev with_value : Bytes → Bytes → Held → Held
  with_value name value h = record (settled rules_here h) { pending = Some (name, value ∷ []) }

  valued : (h : Held) (name value : Bytes) (needed : Bool) → is_plain value ≡ true → arg_by_id rules_here name ≡ Some (option_rule (name, needed))
      → walked rules_here [] (stand (Some name) h) value ≡ walk_from (with_value name value h)
  unfolding walked
  valued h name value needed plain rule =
      let p = plain_value value plain in
      let itself = text_itself name in
      rw (p.2, p.0, p.1, rule, itself) refl

  valued_fault : (h : Held) (name value : Bytes) (needed : Bool) → is_plain value ≡ true → arg_by_id rules_here name ≡ Some (option_rule (name, needed))
      → turn_fault (leaf label options) [] (stand (Some name) h) value ≡ []
  valued_fault h name value needed plain rule =
      let p = plain_value value plain in
      rw (p.2, p.0, p.1) refl

  -- the walk from w over the words, and what waits at its end: it fails just where `ok` is false or a pair isn't fresh
  abbrev pub Goes : List Bytes → Walk → Bool → List Row → List Pair → Type 0
  Goes words w ok rows ps =
      (clear (or_else (walk_fault (leaf label options) [] w words) (fault_in (fold (walked rules_here []) w words).held)) ≡ (ok && is_fresh rows ps))
      × (rows_in (fold (walked rules_here []) w words).held ≡ uses rows ps)

  front : (b x y ok f : Bool) → (x && y) ≡ (ok && f) → ((b && x) && y) ≡ ((b && ok) && f)
  front true x y ok f e = e
  front false x y ok f e = refl

  step : (word : Bytes) (words : List Bytes) (w v : Walk) (b ok : Bool) (rows : List Row) (ps : List Pair)
      → clear (turn_fault (leaf label options) [] w word) ≡ b → walked rules_here [] w word ≡ v → Goes words v ok rows ps → Goes (word ∷ words) w (b && ok) rows ps
  unfolding walk_fault
  step word words w v b ok rows ps turn next rest =
      let here = subst (λ (u : Walk). Goes words u ok rows ps) (sym next) rest in
      let split = clear-or_else (walk_fault (leaf label options) [] (walked rules_here [] w word) words)
      (fault_in (fold (walked rules_here []) (walked rules_here [] w word) words).held) in
      (rw (clear-or_else, clear-or_else, turn) (front b _ _ ok (is_fresh rows ps) (sym split ∙ here.0)), here.1)

  moved : (words : List Bytes) (w : Walk) (ok ok2 : Bool) (rows rows2 : List Row) (ps : List Pair) → ok ≡ ok2 → rows ≡ rows2 → Goes words w ok rows ps → Goes words w ok2 rows2 ps
  moved words w ok ok2 rows rows2 ps e f g = subst (λ (b : Bool). Goes words w b rows2 ps) e (subst (λ (r : List Row). Goes words w ok r ps) f g)

  cond_some : {X : Type 0} (b : Bool) (o : Option X) (x : X) → cond b o None ≡ Some x → (b ≡ true) × (o ≡ Some x)
  cond_some true o x e = (refl, e)
  cond_some false o x e = absurd (cc)

  with_pair_some : (name value : Bytes) (o : Option (List Pair)) (ps : List Pair) → with_pair name value o ≡ Some ps → (qs : List Pair) × (o ≡ Some qs) × (ps ≡ (name, value) ∷ qs)
  with_pair_some name value None ps e = absurd (cc)
  with_pair_some name value (Some qs) ps e = (qs, refl, sym (ap (λ o. unwrap_or o []) e))

  cond_none : {X : Type 0} (b : Bool) (o : Option X) (x : X) → cond b None o ≡ Some x → o ≡ Some x
  cond_none false o x e = e
  cond_none true o x e = absurd (cc)

  abbrev pub clear_at : Option Bytes → Held → Bool
  clear_at None h = clear (fault_in h)
  clear_at (Some name) h = true

  abbrev pub Waits : Option Bytes → Type 0
  Waits None = Unit {0}
  Waits (Some name) = is_listed (names_in options) name ≡ true

  abbrev pub Over : List Bytes → Type 0
  Over words = (waiting : Option Bytes) (h : Held) (ps : List Pair) → pairs_of (names_in options) words waiting ≡ Some ps → Waits waiting
      → Goes words (stand waiting h) (clear_at waiting h) (rows_in h) ps

  -- the next word is the value of an option that waits
  over_value : (word : Bytes) (words : List Bytes) → Over words → (name : Bytes) (h : Held) (ps : List Pair)
      → pairs_of (names_in options) (word ∷ words) (Some name) ≡ Some ps → is_listed (names_in options) name ≡ true
      → Goes (word ∷ words) (stand (Some name) h) true (rows_in h) ps
  over_value word words over name h ps e listed =
      let plain = cond_some (is_plain word) _ ps e in
      let pair = with_pair_some name word _ ps plain.1 in
      let rule = rule_named options name listed in
      let rest = over None (with_value name word h) pair.0 pair.1 tt in
      let by_id = rule.2 in
      let same_rows : rows_in (with_value name word h) ≡ with_use (name, word) (rows_in h) = rw by_id refl in
      let same_fault : clear (fault_in (with_value name word h)) ≡ not (has_row name (rows_in h)) = rw by_id (use_clear name word rule.0 (rows_in h)) in
      let next = moved words _ _ _ _ _ pair.0 same_fault same_rows rest in
      let whole = step word words (stand (Some name) h) _ true _ _ pair.0
      (ap clear (valued_fault h name word rule.0 plain.0 by_id)) (valued h name word rule.0 plain.0 by_id) next in
      subst (λ (qs : List Pair). Goes (word ∷ words) (stand (Some name) h) true (rows_in h) qs) (sym pair.2) whole

  -- the next word is an option
  over_option : (word : Bytes) (words : List Bytes) → Over words → (name : Bytes) (value : Option Bytes) (h : Held) (ps : List Pair)
      → option_word word ≡ Some (name, value) → is_listed (names_in options) name ≡ true
      → after_name name value (pairs_of (names_in options) words) ≡ Some ps
      → Goes (word ∷ words) (walk_from h) (clear (fault_in h)) (rows_in h) ps
  over_option word words over name None h ps w listed e =
      let long = long_word word (name, None) w (named name listed) in
      let rule = rule_named options name listed in
      let rest = over (Some name) h ps e listed in
      let whole = step word words (walk_from h) _ (clear (fault_in h)) true _ ps
      (begun_fault h word name rule.0 long.0 long.1 rule.1) (begun h word name rule.0 long.0 long.1 rule.1) rest in
      moved (word ∷ words) (walk_from h) _ _ _ _ ps (and-true (clear (fault_in h))) refl whole
  over_option word words over name (Some value) h ps w listed e =
      let long = long_word word (name, Some value) w (named name listed) in
      let rule = rule_named options name listed in
      let some = cond_none (length value == 0) _ ps e in
      let pair = with_pair_some name value _ ps some in
      let rest = over None (reacted rules_here (option_rule (name, rule.0)) (value ∷ []) h) pair.0 pair.1 tt in
      let whole = step word words (walk_from h) _ (clear (fault_in h) && not (has_row name (rows_in h))) true _ pair.0
      (joined_fault h word name value rule.0 long.0 long.1 rule.1) (joined h word name value rule.0 long.0 long.1 rule.1) rest in
      let both = moved (word ∷ words) (walk_from h) _ _ _ _ pair.0 (and-true (clear (fault_in h) && not (has_row name (rows_in h)))) refl whole in
      let here : Goes (word ∷ words) (walk_from h) (clear (fault_in h)) (rows_in h) ((name, value) ∷ pair.0) =
      (both.0 ∙ and_assoc (clear (fault_in h)) _ _, both.1) in
      subst (λ (qs : List Pair). Goes (word ∷ words) (walk_from h) (clear (fault_in h)) (rows_in h) qs) (sym pair.2) here

  over_word : (word : Bytes) (words : List Bytes) → Over words → (o : Option (Bytes × Option Bytes)) (h : Held) (ps : List Pair)
      → option_word word ≡ o → at_option (names_in options) o (pairs_of (names_in options) words) ≡ Some ps
      → Goes (word ∷ words) (walk_from h) (clear (fault_in h)) (rows_in h) ps
  over_word word words over None h ps w e = absurd (cc)
  over_word word words over (Some o) h ps w e =
      let listed = cond_some (is_listed (names_in options) o.0) _ ps e in
      over_option word words over o.0 o.1 h ps w listed.0 listed.1

  -- each list of words that spells pairs
  pub over : (words : List Bytes) → Over words
  unfolding walk_fault
  over [] None h [] e w = (sym (and-true (clear (fault_in h))), refl)
  over [] None h (p ∷ ps) e w = absurd (cc)
  over [] (Some name) h ps e w = absurd (cc)
  over (word ∷ words) None h ps e w = over_word word words (over words) (option_word word) h ps refl e
  over (word ∷ words) (Some name) h ps e w = over_value word words (over words) name h ps e w
