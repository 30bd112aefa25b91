-- What several workers did together.
use Rattle.std.proofs.Common.{◌≡◌, ℕ, ◌+◌, ◌-◌, ◌<◌, List, [], ◌∷◌, ◌++◌, length, refl, sym, subst, arith, length-append}
use Rattle.std.proofs.lemmas.List.Elements.{All-nil, All-cons, All-append, All-push}
use Rattle.blob_model.specs.declared.call.Event.{Event}
use Rattle.blob_server.specs.declared.tally.Tally.{Tally}
use Rattle.blob_server.specs.Tallies.{all_parts, tally, both, after_put, after_take}
use Rattle.blob_server.specs.Serving.{WasServed, Accounts, ServedMany}

-- the store is the same
module _ {S P H : Type 0} (home : S → H) (saw : S → List Event) (gives : S → P → S → Type 0) (here there : H) (is : here ≡ there) where
  pub elsewhere : (history : List Event) (peer : P) → WasServed home saw gives here history peer → WasServed home saw gives there history peer
  elsewhere history peer served = subst (λ place. WasServed home saw gives place history peer) is served

  pub accounts_elsewhere : (GoesOn : List Event → Type 0) (n : ℕ) (v w : Tally P) → Accounts (WasServed home saw gives here) GoesOn n v w → Accounts (WasServed home saw gives there) GoesOn n v w
  accounts_elsewhere GoesOn n v w did = subst (λ place. Accounts (WasServed home saw gives place) GoesOn n v w) is did

module _ {P : Type 0} (Served : List Event → P → Type 0) where
  -- more was seen since
  pub narrowed : (First Last : List Event → Type 0) (n : ℕ) (v w : Tally P) → ((history : List Event) → Last history → First history) → Accounts Served First n v w → Accounts Served Last n v w
  narrowed First Last n v w back a = record {
    parts = a.parts;
    own = a.own;
    own_served = λ history on. a.own_served history (back history on);
    count = a.count;
    taken = λ history on. a.taken history (back history on);
  }

module _ {P : Type 0} (Served : List Event → P → Type 0) (GoesOn : List Event → Type 0) where
  -- nothing came
  pub nothing : (v : Tally P) → Accounts Served GoesOn 0 v v
  nothing v = record { parts = refl; own = []; own_served = λ history on. All-nil (Served history); count = omega arith; taken = λ history on all. all }

  -- a peer was put
  pub put_one : (v w : Tally P) → w ≡ after_put v → Accounts Served GoesOn 1 v w
  put_one v w is = subst (λ (t : Tally P). Accounts Served GoesOn 1 v t) (sym is)
      (record { parts = refl; own = []; own_served = λ history on. All-nil (Served history); count = omega arith; taken = λ history on all. all })

  -- a peer was served without the queue
  pub served_one : (v w : Tally P) (peer : P) → w ≡ v → ((history : List Event) → GoesOn history → Served history peer) → Accounts Served GoesOn 1 v w
  served_one v w peer is served = subst (λ (t : Tally P). Accounts Served GoesOn 1 v t) (sym is) (record {
    parts = refl;
    own = peer ∷ [];
    own_served = λ history on. All-cons (Served history) peer [] (served history on) (All-nil (Served history));
    count = omega arith;
    taken = λ history on all. all;
  })

  -- one after the other
  pub then : (n m k : ℕ) (u v w : Tally P) → n + m ≡ k → Accounts Served GoesOn n u v → Accounts Served GoesOn m v w → Accounts Served GoesOn k u w
  then n m k u v w sum a b = record {
    parts = omega (arith, a.parts, b.parts);
    own = a.own ++ b.own;
    own_served = λ history on. All-append (Served history) a.own b.own (a.own_served history on) (b.own_served history on);
    count = (let joined = length-append a.own b.own in let p = a.count in let q = b.count in omega (arith, sum));
    taken = λ history on all. b.taken history on (a.taken history on all);
  }

  -- and then one more was taken and served
  pub took_one : (n : ℕ) (u v w : Tally P) (peer : P) → Accounts Served GoesOn n u v → w ≡ after_take v peer → ((history : List Event) → GoesOn history → Served history peer)
      → Accounts Served GoesOn n u w
  took_one n u v w peer so is served = then n 0 n u v w (omega arith) so (subst (λ (t : Tally P). Accounts Served GoesOn 0 v t) (sym is) (record {
    parts = refl;
    own = [];
    own_served = λ history on. All-nil (Served history);
    count = omega arith;
    taken = λ history on all. All-push (Served history) v.taken peer all (served history on);
  }))

  -- beside each other, by a pass of which one part was cut off
  pub beside : (n m k : ℕ) (v w other : Tally P) → n + m ≡ k → 1 < v.parts → Accounts Served GoesOn n (tally (v.parts - 1) v.put v.taken) w → Accounts Served GoesOn m (tally 1 0 []) other
      → Accounts Served GoesOn k v (both w other)
  beside n m k v w other sum some a b = record {
    parts = omega (arith, a.parts, b.parts, some);
    own = a.own ++ b.own;
    own_served = λ history on. All-append (Served history) a.own b.own (a.own_served history on) (b.own_served history on);
    count = (let joined = length-append a.own b.own in let p = a.count in let q = b.count in omega (arith, sum));
    taken = λ history on all. All-append (Served history) w.taken other.taken (a.taken history on all) (b.taken history on (All-nil (Served history)));
  }

  -- two passes with all parts between them
  pub together : (n : ℕ) (w other : Tally P) → Accounts Served GoesOn 0 (tally (all_parts - 1) 0 []) w → Accounts Served GoesOn n (tally 1 0 []) other
      → Accounts Served GoesOn n (tally all_parts 0 []) (both w other)
  together n w other a b = beside 0 n n (tally all_parts 0 []) w other (omega arith) (omega arith) a b

  -- all that came were served where as many were taken as were put
  pub all_served : (n : ℕ) (w : Tally P) → Accounts Served GoesOn n (tally all_parts 0 []) w → w.put ≡ length w.taken → (history : List Event) → GoesOn history → ServedMany (Served history) n
  all_served n w a all history on = record {
    peers = a.own ++ w.taken;
    number = (let joined = length-append a.own w.taken in let p = a.count in omega (arith, all));
    each = All-append (Served history) a.own w.taken (a.own_served history on) (a.taken history on (All-nil (Served history)));
  }
