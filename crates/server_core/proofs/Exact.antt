-- Each end comes in each of its cases.
use Rattle.std.proofs.Common.{◌≡◌, ℕ, ◌<◌, Bool, true, false, List, [], length, refl, sym, ◌∙◌, ap, arith}
use Rattle.std.proofs.lemmas.Bool.{false≢true}
use Rattle.std.specs.Prelude.{Option}
use Rattle.items.specs.Items.{ItemStream}
use Rattle.items.specs.Rounds.{until_last, has_last}
use Rattle.items.proofs.Rounds.{has_last-until_last}
use Rattle.server_core.specs.declared.flow.End.{End}
use Rattle.server_core.specs.declared.flow.End.TheVariants as Ends
use Rattle.server_core.specs.Conversed.{Ended, Closing, EndsExactly}

-- items that were answered have a last one, or none
quit_or_none : {Item : Type 0} (is_last : Item → Bool) (a b items : List Item) → items ≡ until_last is_last a → has_last is_last a ≡ true → items ≡ until_last is_last b → has_last is_last b ≡ false → ⊥
quit_or_none is_last a b items is_a quit is_b none =
    false≢true (sym none ∙ (sym (has_last-until_last is_last b) ∙ (ap (has_last is_last) (sym is_b ∙ is_a) ∙ (has_last-until_last is_last a ∙ quit))))

not_both : (b : Bool) → b ≡ true → b ≡ false → ⊥
not_both b p q = false≢true (sym q ∙ p)

some_left : (rest : List ℕ) → 0 < length rest → rest ≡ [] → ⊥
some_left rest some none = omega (arith, some, ap length none)

rose_and_same : (ends ends' : ℕ) → ends < ends' → ends' ≡ ends → ⊥
rose_and_same ends ends' rose same = omega arith

less_and_full : (taken limit : ℕ) → taken < limit → taken ≡ limit → ⊥
less_and_full taken limit less full = omega arith

module _ {Item : Type 0} (is_last : Item → Bool) (heard : ItemStream Item) (taken limit : ℕ) (items : List Item) (rest : List ℕ) (left : Option (List ℕ)) (ends ends' : ℕ) where
  pub exactly : (end : End) → Ended is_last heard taken limit items rest left end → Closing heard ends ends' end → EndsExactly is_last heard taken limit items rest ends ends' end
  exactly Ends.Quit e closing = record {
    quit = λ all q some. refl;
    input_end = λ rose cut none all some. absurd (not_both _ e.1 none);
    cut = λ rose cut some. absurd (rose_and_same ends ends' rose (closing cut));
    too_long = λ full none all some. absurd (quit_or_none is_last heard.items heard.whole items e.0.0 e.1 all.0 none);
  }
  exactly Ends.InputEnd e closing = record {
    quit = λ all q some. absurd (not_both _ q e.1);
    input_end = λ rose cut none all some. refl;
    cut = λ rose cut some. absurd (not_both _ cut e.2);
    too_long = λ full none all some. absurd (less_and_full taken limit e.3 full);
  }
  exactly Ends.Cut e closing = record {
    quit = λ all q some. absurd (quit_or_none is_last heard.items heard.whole items all.0 q e.0.0 e.1);
    input_end = λ rose cut none all some. absurd (not_both _ e.2 cut);
    cut = λ rose cut some. refl;
    too_long = λ full none all some. absurd (less_and_full taken limit e.3 full);
  }
  exactly Ends.ReadFault e closing = record {
    quit = λ all q some. absurd (quit_or_none is_last heard.items heard.whole items all.0 q e.0.0 e.1);
    input_end = λ rose cut none all some. absurd (rose_and_same ends ends' rose closing);
    cut = λ rose cut some. absurd (rose_and_same ends ends' rose closing);
    too_long = λ full none all some. absurd (less_and_full taken limit e.2 full);
  }
  exactly Ends.InputTooLong e closing = record {
    quit = λ all q some. absurd (quit_or_none is_last heard.items heard.whole items all.0 q e.0.0 e.1);
    input_end = λ rose cut none all some. absurd (rose_and_same ends ends' rose closing);
    cut = λ rose cut some. absurd (rose_and_same ends ends' rose closing);
    too_long = λ full none all some. refl;
  }
  exactly Ends.WriteFault e closing = record {
    quit = λ all q some. absurd (some_left rest e.1 all.1);
    input_end = λ rose cut none all some. absurd (some_left rest e.1 all.1);
    cut = λ rose cut some. absurd (rose_and_same ends ends' rose (closing cut));
    too_long = λ full none all some. absurd (some_left rest e.1 all.1);
  }
  exactly Ends.NoMemory e closing = record {
    quit = λ all q some. absurd (some refl);
    input_end = λ rose cut none all some. absurd (some refl);
    cut = λ rose cut some. absurd (some refl);
    too_long = λ full none all some. absurd (some refl);
  }
