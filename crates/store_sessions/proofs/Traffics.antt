-- The doors of some time, and then those of another.
use Rattle.std.proofs.Common.{◌≡◌, ℕ, suc, ◌+◌, ◌*◌, arith, refl, sym, subst}
use Rattle.std.proofs.Math.Nat.{suc-mul, zero-mul}
use Rattle.std.specs.Prelude.{Result, Ok, Err}
use Rattle.page_store.specs.Calls.{Traffic, no_door, AllCameBack}
use Rattle.page_store.proofs.CallsLemmas.{traffic_join}
use Rattle.store_sessions.specs.Lent.{LentDoors}

-- once more
pub times_more : (n p : ℕ) → (n + 1) * p ≡ n * p + p
times_more n p = let e : n + 1 ≡ suc n = omega arith in rw e (suc-mul n p)

module _ {M : Type 0} (hands_out takes_back : M → M → Type 0) where
  -- so many doors in all
  pub traffic_both : (out back out' back' m n : ℕ) (first maker last : M) → out + out' ≡ m → back + back' ≡ n
      → Traffic hands_out takes_back out back first maker → Traffic hands_out takes_back out' back' maker last → Traffic hands_out takes_back m n first last
  traffic_both out back out' back' m n first maker last outs backs a b =
      subst (λ (k : ℕ). Traffic hands_out takes_back k n first last) outs
      (subst (λ (k : ℕ). Traffic hands_out takes_back (out + out') k first last) backs (traffic_join hands_out takes_back out back out' back' first maker last a b))

  -- all that were handed out came back
  pub went_back : (n : ℕ) (first maker last : M) → Traffic hands_out takes_back n 0 first maker → Traffic hands_out takes_back 0 n maker last → Traffic hands_out takes_back n n first last
  went_back n first maker last a b = traffic_both n 0 0 n n n first maker last (omega arith) (omega arith) a b

  -- and so did those of a time between
  pub came_back_around : (n : ℕ) (first maker next last : M) → Traffic hands_out takes_back n 0 first maker → AllCameBack hands_out takes_back maker next → Traffic hands_out takes_back 0 n next last
      → AllCameBack hands_out takes_back first last
  came_back_around n first maker next last a (m, b) c =
      (n + m, traffic_both (n + m) m 0 n (n + m) (n + m) first next last (omega arith) (omega arith) (traffic_both n 0 m m (n + m) m first maker next refl (omega arith) a b) c)

  -- as many were made and came back, whatever is told
  pub lent : {A E : Type 0} (n : ℕ) (first last : M) (told : Result A E) → Traffic hands_out takes_back n n first last → LentDoors hands_out takes_back n first last told
  lent n first last (Ok done) a = a
  lent n first last (Err fault) a = (n, a)

  module _ (p : ℕ) where
    -- ---- sessions that are made one after another, each with so many doors

    pub none_handed : (maker : M) → Traffic hands_out takes_back (0 * p) 0 maker maker
    none_handed maker = rw (zero-mul p) no_door

    pub handed_more : (n : ℕ) (first maker last : M) → Traffic hands_out takes_back (n * p) 0 first maker → Traffic hands_out takes_back p 0 maker last
        → Traffic hands_out takes_back ((n + 1) * p) 0 first last
    handed_more n first maker last a b = traffic_both (n * p) 0 p 0 ((n + 1) * p) 0 first maker last (sym (times_more n p)) refl a b

    -- ---- sessions that end one after another

    -- of so many sessions some are left, and the doors of the others were taken back
    pub record HaveGone (all left : ℕ) (first last : M) : Type 0 where
      pub gone : ℕ
      pub split : left + gone ≡ all
      pub taken : Traffic hands_out takes_back 0 (gone * p) first last

    pub none_gone : (all : ℕ) (maker : M) → HaveGone all all maker maker
    none_gone all maker = record { gone = 0; split = omega arith; taken = rw (zero-mul p) no_door }

    pub gone_more : (all left left' : ℕ) (first maker last : M) → left ≡ left' + 1 → HaveGone all left first maker → Traffic hands_out takes_back 0 p maker last → HaveGone all left' first last
    gone_more all left left' first maker last less had b = record {
      gone = had.gone + 1;
      split = omega (arith, less, had.split);
      taken = traffic_both 0 (had.gone * p) 0 p 0 ((had.gone + 1) * p) first maker last refl (sym (times_more had.gone p)) had.taken b;
    }

    pub all_gone : (all left : ℕ) (first last : M) → left ≡ 0 → HaveGone all left first last → Traffic hands_out takes_back 0 (all * p) first last
    all_gone all left first last none had =
        let e : had.gone ≡ all = omega (arith, none, had.split) in
        subst (λ (n : ℕ). Traffic hands_out takes_back 0 (n * p) first last) e had.taken
