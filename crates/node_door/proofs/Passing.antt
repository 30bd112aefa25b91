-- What goes over a link, call after call.
use Rattle.std.proofs.Common.{◌≡◌, ◌∙◌, ◌⊎◌, ℕ, ◌+◌, ◌<◌, ◌≤◌, Bool, true, false, true≢false, List, [], ◌∷◌, ◌++◌, length, take, drop, take-add, take-append-drop, Option, Some, None, refl, sym, ap, subst, arith, append_assoc, append-nil, length-append, length-drop, inl, inr}
use Rattle.std.proofs.Math.Seq.{take-append_seam, drop-append_seam}
use Rattle.std.proofs.lemmas.List.{take_all, length-take-le}
use Rattle.std.specs.Io.KnownBytes.{Appends, Consumes}
use Rattle.std.proofs.KnownBytes.{Appends-nil, Appends-trans, Consumes-nil, Consumes-trans}
use Rattle.faults.specs.Counts.{RoseBy}
use Rattle.ports.specs.Stream.{LeavesOut, appended_bytes, write_fault_count}
use Rattle.ports.specs.declared.stream.Written.{Written}
use Rattle.ports.specs.declared.stream.Written.TheVariants as Writtens
use Rattle.items.specs.BegunFrame.{frame_part}
use Rattle.node_door.specs.declared.wire.Exchanged.{Exchanged}
use Rattle.node_door.specs.declared.wire.Exchanged.TheVariants as Exchange
use Rattle.node_door.specs.Link.{LinkAt, Passed, WriteBroke, ReadBroke, Sends, TakesAt, Fills, ComparesSoFar, Compares, Tells, IsHeard, Hears, IsExchanged, Exchanges}
use Rattle.node_door.proofs.Replies.{given_tells, given_other}

-- nothing
pub passed_none : (at : LinkAt) → Passed [] [] at at
passed_none at = record {
  written = Appends-nil at.written;
  given = Appends-nil at.given;
  left = Consumes-nil at.left;
  read_faults = omega arith;
  write_faults = omega arith;
  ends = omega arith;
}

-- two calls, one after the other
pub passed_on : (a b c : LinkAt) (sent sent' got got' : List ℕ) → Passed sent got a b → Passed sent' got' b c → Passed (sent ++ sent') (got ++ got') a c
passed_on a b c sent sent' got got' p q = record {
  written = Appends-trans a.written b.written c.written sent sent' p.written q.written;
  given = Appends-trans a.given b.given c.given got got' p.given q.given;
  left = Consumes-trans a.left b.left c.left got got' p.left q.left;
  read_faults = omega (arith, p.read_faults, q.read_faults);
  write_faults = omega (arith, p.write_faults, q.write_faults);
  ends = omega (arith, p.ends, q.ends);
}

rose_on : (a b c : ℕ) → a ≤ b → RoseBy 1 b c → RoseBy 1 a c
rose_on a b c on r = record { later = omega (arith, r.later); by = λ below. (let h = r.by below in omega arith) }

-- what broke later broke in both
pub read_broke_on : (a b c : LinkAt) (sent got : List ℕ) → Passed sent got a b → ReadBroke b c → ReadBroke a c
read_broke_on a b c sent got p (inl r) = inl (rose_on a.read_faults b.read_faults c.read_faults p.read_faults r)
read_broke_on a b c sent got p (inr r) = inr (rose_on a.ends b.ends c.ends p.ends r)

pub write_broke_on : (a b c : LinkAt) (sent got : List ℕ) → Passed sent got a b → WriteBroke b c → WriteBroke a c
write_broke_on a b c sent got p r = rose_on a.write_faults b.write_faults c.write_faults p.write_faults r

-- ---- writes

pub sends_whole : (frame : List ℕ) (before after : LinkAt) → Passed frame [] before after → Sends frame before after true
sends_whole frame before after p = record {
  sent = frame;
  rest = [];
  joins = sym (append-nil frame);
  passed = p;
  whole = λ _. refl;
  part = λ h. absurd (true≢false h);
}

pub sends_part : (frame : List ℕ) (n : ℕ) (before after : LinkAt) → n < length frame → Passed (take n frame) [] before after → WriteBroke before after → Sends frame before after false
sends_part frame n before after less p broke = record {
  sent = take n frame;
  rest = drop n frame;
  joins = sym (take-append-drop n frame);
  passed = p;
  whole = λ h. absurd (true≢false (sym h));
  part = λ _. (let l = length-drop n frame in omega arith, broke);
}

-- the first part wasn't written whole
pub sends_front : (front bytes : List ℕ) (before after : LinkAt) (ok : Bool) → ok ≡ false → Sends front before after ok → Sends (front ++ bytes) before after false
sends_front front bytes before after ok not s = record {
  sent = s.sent;
  rest = s.rest ++ bytes;
  joins = ap (λ (l : List ℕ). l ++ bytes) s.joins ∙ append_assoc s.sent s.rest bytes;
  passed = s.passed;
  whole = λ h. absurd (true≢false (sym h));
  part = λ _. (let l = length-append s.rest bytes in let some = (s.part not).0 in omega arith, (s.part not).1);
}

-- and where it was, the second one follows
pub sends_both : (front bytes : List ℕ) (before mid after : LinkAt) (ok ok' : Bool) → ok ≡ true → Sends front before mid ok → Sends bytes mid after ok' → Sends (front ++ bytes) before after ok'
sends_both front bytes before mid after ok ok' is s t = record {
  sent = s.sent ++ t.sent;
  rest = t.rest;
  joins = ap (λ (l : List ℕ). l ++ bytes) whole ∙ ap (λ (l : List ℕ). s.sent ++ l) t.joins ∙ sym (append_assoc s.sent t.sent t.rest);
  passed = passed_on before mid after s.sent t.sent [] [] s.passed t.passed;
  whole = t.whole;
  part = λ h. ((t.part h).0, write_broke_on before mid after s.sent [] s.passed (t.part h).1);
}
  where
    whole : front ≡ s.sent
    whole = s.joins ∙ ap (λ (l : List ℕ). s.sent ++ l) (s.whole is) ∙ append-nil s.sent

-- ---- reads

-- one more piece behind those that fill a buffer so far
pub takes_more : (old new : List ℕ) (at n : ℕ) (a b c : LinkAt) → Passed [] (take at old) a b → TakesAt old at new b c (Some n) → Passed [] (take (at + n) new) a c
takes_more old new at n a b c p t =
    subst (λ (l : List ℕ). Passed [] l a c) (ap (λ (l : List ℕ). l ++ take n (drop at new)) (sym t.2) ∙ sym (take-add at n new)) (passed_on a b c [] [] (take at old) (take n (drop at new)) p t.3)

pub fills_part : (old new : List ℕ) (at : ℕ) (a b c : LinkAt) → Passed [] (take at old) a b → TakesAt old at new b c None → Fills new a c false
fills_part old new at a b c p t = record {
  got = take at old;
  passed = subst (λ (l : List ℕ). Passed [] l a c) (append-nil (take at old)) (passed_on a b c [] [] (take at old) [] p t.1);
  whole = λ h. absurd (true≢false (sym h));
  broke = λ _. read_broke_on a b c [] (take at old) p t.2;
}

-- ---- by the answers of a link

abbrev went : Written → Bool
went Writtens.Whole = true
went (Writtens.Failed n) = false

pub passed_write : (bytes : List ℕ) (w : Written) (before after : LinkAt) → Appends before.written after.written (appended_bytes bytes w) → after.given ≡ before.given → after.left ≡ before.left
    → RoseBy (write_fault_count w) before.write_faults after.write_faults → after.read_faults ≡ before.read_faults → after.ends ≡ before.ends → Passed (appended_bytes bytes w) [] before after
passed_write bytes w before after appends given left rose reads ends = record {
  written = appends;
  given = subst (λ (o : Option (List ℕ)). Appends before.given o []) (sym given) (Appends-nil before.given);
  left = subst (λ (o : Option (List ℕ)). Consumes before.left o []) (sym left) (Consumes-nil before.left);
  read_faults = omega (arith, reads);
  write_faults = rose.later;
  ends = omega (arith, ends);
}

sends_went : (bytes : List ℕ) (w : Written) (before after : LinkAt) → LeavesOut bytes w → RoseBy (write_fault_count w) before.write_faults after.write_faults → Passed (appended_bytes bytes w) [] before after → Sends bytes before after (went w)
sends_went bytes Writtens.Whole before after out rose p = sends_whole bytes before after p
sends_went bytes (Writtens.Failed n) before after out rose p = sends_part bytes n before after out p rose

pub sends_by : (bytes : List ℕ) (w : Written) (before before' after : LinkAt) (ok : Bool) → before ≡ before' → (w ≡ Writtens.Whole × ok ≡ true) ⊎ ((n : ℕ) × (w ≡ Writtens.Failed n) × ok ≡ false) → LeavesOut bytes w
    → Appends before.written after.written (appended_bytes bytes w) → after.given ≡ before.given → after.left ≡ before.left
    → RoseBy (write_fault_count w) before.write_faults after.write_faults → after.read_faults ≡ before.read_faults → after.ends ≡ before.ends → Sends bytes before' after ok
sends_by bytes w before before' after ok same told out appends given left rose reads ends =
    subst (λ (at : LinkAt). Sends bytes at after ok) same
    (subst (λ (b : Bool). Sends bytes before after b) (as_told told)
    (sends_went bytes w before after out rose (passed_write bytes w before after appends given left rose reads ends)))
  where
    as_told : (w ≡ Writtens.Whole × ok ≡ true) ⊎ ((n : ℕ) × (w ≡ Writtens.Failed n) × ok ≡ false) → went w ≡ ok
    as_told (inl both) = ap went both.0 ∙ sym both.1
    as_told (inr some) = ap went some.1 ∙ sym some.2

-- ---- bytes that are compared

-- what is left of those that are wanted
rest_of : (at n : ℕ) (got more rest want : List ℕ) → length got ≡ at → length more ≡ n → (got ++ more) ++ rest ≡ want → (got ≡ take at want) × (more ≡ take n (drop at want))
rest_of at n got more rest want long few e = (
  sym (ap (λ (l : List ℕ). take at l) (sym e ∙ append_assoc got more rest) ∙ take_front at got (more ++ rest) long),
  sym (ap (λ (l : List ℕ). take n (drop at l)) (sym e ∙ append_assoc got more rest) ∙ ap (λ (l : List ℕ). take n l) (drop_front at got (more ++ rest) long) ∙ take_front n more rest few),
)
  where
    take_front : (k : ℕ) (front back : List ℕ) → length front ≡ k → take k (front ++ back) ≡ front
    take_front k front back h = ap (λ (m : ℕ). take m (front ++ back)) (sym h) ∙ take-append_seam front back

    drop_front : (k : ℕ) (front back : List ℕ) → length front ≡ k → drop k (front ++ back) ≡ back
    drop_front k front back h = ap (λ (m : ℕ). drop m (front ++ back)) (sym h) ∙ drop-append_seam front back

pub compared_on : (count : ℕ) (want : List ℕ) (at n : ℕ) (same same' : Bool) (room : List ℕ) (a b c : LinkAt) → n ≤ length room → ComparesSoFar count want at same a b → Fills (take n room) b c true
    → (same' ≡ true → (same ≡ true) × (take n room ≡ take n (drop at want))) → (same' ≡ false → same ≡ true → (take n room ≡ take n (drop at want)) → ⊥) → ComparesSoFar count want (at + n) same' a c
compared_on count want at n same same' room a b c fits s f is other = record {
  got = s.got ++ take n room;
  passed = passed_on a b c [] [] s.got (take n room) s.passed (subst (λ (l : List ℕ). Passed [] l b c) (f.whole refl) f.passed);
  many = length-append s.got (take n room) ∙ (let m = s.many in let l = length-take-le n room fits in omega arith);
  alike = λ h. ((s.alike (is h).0).0, (ap (λ (l : List ℕ). l ++ take n room) (s.alike (is h).0).1 ∙ ap (λ (l : List ℕ). take at want ++ l) (is h).1 ∙ sym (take-add at n want)));
  unlike = λ h rest lengths e. by same refl h rest lengths e;
}
  where
    by : (b' : Bool) → same ≡ b' → same' ≡ false → (rest : List ℕ) → length (s.got ++ take n room) + length rest ≡ count → (s.got ++ take n room) ++ rest ≡ want → ⊥
    by true e h rest lengths is_want = other h e (rest_of at n s.got (take n room) rest want s.many (length-take-le n room fits) is_want).1
    by false e h rest lengths is_want =
        s.unlike e (take n room ++ rest) (let x = length-append s.got (take n room) in let y = length-append (take n room) rest in omega arith) (sym (append_assoc s.got (take n room) rest) ∙ is_want)

pub compared_all : (count : ℕ) (want : List ℕ) (at : ℕ) (same : Bool) (a b : LinkAt) → at ≤ count → (at < count → ⊥) → ComparesSoFar count want at same a b → Compares count want a b (Some same)
compared_all count want at same a b within done s = record {
  got = s.got;
  passed = s.passed;
  compared = (let m = s.many in omega arith, (λ h. (s.alike h).1 ∙ take_all at want (let e = (s.alike h).0 in omega arith)), (λ h e. s.unlike h [] (let m = s.many in omega arith) (append-nil s.got ∙ e)));
}

pub compared_broke : (count : ℕ) (want : List ℕ) (at n : ℕ) (same : Bool) (room : List ℕ) (a b c : LinkAt) (ok : Bool) → ok ≡ false → ComparesSoFar count want at same a b → Fills room b c ok → Compares count want a c None
compared_broke count want at n same room a b c ok not s f = record {
  got = s.got ++ f.got;
  passed = passed_on a b c [] [] s.got f.got s.passed f.passed;
  compared = read_broke_on a b c [] s.got s.passed (f.broke not);
}

-- ---- replies that are read

-- what the bytes tell, they tell of a reply that is read
pub heard_as_told : (want got : List ℕ) (before after : LinkAt) (r : Exchanged) → Tells want got r → IsHeard want got before after r
heard_as_told want got before after (Exchange.Kept id) t = t
heard_as_told want got before after Exchange.Same t = t
heard_as_told want got before after Exchange.NoMemory t = t
heard_as_told want got before after Exchange.Other t = t
heard_as_told want got before after Exchange.Broken t = inr t

heard_from : (want got : List ℕ) (a b c : LinkAt) (r : Exchanged) (sent more : List ℕ) → Passed sent more a b → IsHeard want got b c r → IsHeard want got a c r
heard_from want got a b c (Exchange.Kept id) sent more p t = t
heard_from want got a b c Exchange.Same sent more p t = t
heard_from want got a b c Exchange.NoMemory sent more p t = t
heard_from want got a b c Exchange.Other sent more p t = t
heard_from want got a b c Exchange.Broken sent more p (inl broke) = inl (read_broke_on a b c sent more p broke)
heard_from want got a b c Exchange.Broken sent more p (inr out) = inr out

pub hears_told : (want front buf whole : List ℕ) (a b : LinkAt) (ok : Bool) (r : Exchanged) → ok ≡ true → Fills buf a b ok → front ++ buf ≡ whole → Tells want whole r → Hears want front a b r
hears_told want front buf whole a b ok r is f joins t = record {
  got = buf;
  passed = subst (λ (l : List ℕ). Passed [] l a b) (f.whole is) f.passed;
  heard = heard_as_told want (front ++ buf) a b r (subst (λ (l : List ℕ). Tells want l r) (sym joins) t);
}

-- the rest of a reply behind its head
pub hears_behind : (want buf front : List ℕ) (a b c : LinkAt) (ok : Bool) (r : Exchanged) → ok ≡ true → Fills buf a b ok → buf ≡ front → Hears want front b c r → Hears want [] a c r
hears_behind want buf front a b c ok r is f same h = record {
  got = front ++ h.got;
  passed = passed_on a b c [] [] front h.got (subst (λ (l : List ℕ). Passed [] l a b) (f.whole is ∙ same) f.passed) h.passed;
  heard = heard_from want (front ++ h.got) a b c r [] front (subst (λ (l : List ℕ). Passed [] l a b) (f.whole is ∙ same) f.passed) h.heard;
}

pub hears_given_same : (count : ℕ) (want : List ℕ) (a b : LinkAt) (same : Bool) → same ≡ true → count < 2097152 → Compares count want a b (Some same) → Hears want (frame_part (1 + count) (161 ∷ [])) a b Exchange.Same
hears_given_same count want a b same is few k = record { got = k.got; passed = k.passed; heard = given_tells count k.got want few k.compared.0 (k.compared.1 is) }

pub hears_given_other : (count : ℕ) (want : List ℕ) (a b : LinkAt) (same : Bool) → same ≡ false → count < 2097152 → Compares count want a b (Some same) → Hears want (frame_part (1 + count) (161 ∷ [])) a b Exchange.Other
hears_given_other count want a b same not few k = record { got = k.got; passed = k.passed; heard = given_other count k.got want few k.compared.0 (k.compared.2 not) }

pub hears_cast : (want front front' : List ℕ) (a b : LinkAt) (r : Exchanged) → front ≡ front' → Hears want front a b r → Hears want front' a b r
hears_cast want front front' a b r e h = subst (λ (l : List ℕ). Hears want l a b r) e h

-- ---- a frame and its reply

pub exchanges_unsent : (frame want : List ℕ) (a b : LinkAt) (ok : Bool) → ok ≡ false → Sends frame a b ok → Exchanges frame want a b Exchange.Broken
exchanges_unsent frame want a b ok not s = record { sent = s.sent; got = []; passed = s.passed; comes = inl (s.rest, s.joins, refl, (s.part not).1) }

exchanged_by : (frame want sent got : List ℕ) (a b c : LinkAt) (r : Exchanged) → frame ≡ sent → Passed sent [] a b → IsHeard want got b c r → IsExchanged frame want sent got a c r
exchanged_by frame want sent got a b c (Exchange.Kept id) e p t = (sym e, t)
exchanged_by frame want sent got a b c Exchange.Same e p t = (sym e, t)
exchanged_by frame want sent got a b c Exchange.NoMemory e p t = (sym e, t)
exchanged_by frame want sent got a b c Exchange.Other e p t = (sym e, t)
exchanged_by frame want sent got a b c Exchange.Broken e p (inl broke) = inr (sym e, inl (read_broke_on a b c sent [] p broke))
exchanged_by frame want sent got a b c Exchange.Broken e p (inr out) = inr (sym e, inr out)

pub exchanges_heard : (frame want : List ℕ) (a b c : LinkAt) (ok : Bool) (r : Exchanged) → ok ≡ true → Sends frame a b ok → Hears want [] b c r → Exchanges frame want a c r
exchanges_heard frame want a b c ok r is s h = record {
  sent = s.sent;
  got = h.got;
  passed = subst (λ (l : List ℕ). Passed l h.got a c) (append-nil s.sent) (passed_on a b c s.sent [] [] h.got s.passed h.passed);
  comes = exchanged_by frame want s.sent h.got a b c r (s.joins ∙ ap (λ (l : List ℕ). s.sent ++ l) (s.whole is) ∙ append-nil s.sent) s.passed h.heard;
}
