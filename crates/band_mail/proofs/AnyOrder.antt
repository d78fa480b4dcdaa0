-- All Putters of a mail, in any order, and the queues that are drained as they come.
use Rattle.std.proofs.Common.{◌≡◌, ◌≢◌, ◌≤◌, ◌<◌, ◌+◌, ℕ, suc, ⊎_elim, eq-eqb, ne_eqb, List, [], ◌∷◌, ◌++◌, length, map, get_or, ap, sym, ◌∙◌, subst, refl, arith, append_assoc, length-append, All, reverse}
use Rattle.std.proofs.Math.Nat.{zero-add}
use Rattle.std.proofs.lemmas.Bool.{cases_lt}
use Rattle.std.proofs.lemmas.List.{append-nil, get_or_past, reverse-append, length-reverse}
use Rattle.std.proofs.lemmas.List.Elements.{All-push}
use Rattle.band_mail.specs.Mails.{Mail, Putting, IsPutterOf, ArePuttersOf, AreAllPuttersOf, IsAllDelivered, putters_of, put_by, of_worker}
use Rattle.band_mail.proofs.Named.{same_or_not}
use Rattle.band_mail.proofs.OfWorkers.{of_worker-append, of_worker-same, of_worker-other}

module _ {T : Type 0} where
  -- ---- one Putter in front

  pub count_own : (w : ℕ) (p : Putting T) (ps : List (Putting T)) → p.worker ≡ w → putters_of w (p ∷ ps) ≡ 1 + putters_of w ps
  count_own w p ps e = rw (eq-eqb p.worker w e) refl

  pub count_other : (w : ℕ) (p : Putting T) (ps : List (Putting T)) → p.worker ≢ w → putters_of w (p ∷ ps) ≡ putters_of w ps
  count_other w p ps n = rw (ne_eqb p.worker w n) (zero-add (putters_of w ps))

  pub put_own : (w : ℕ) (p : Putting T) (ps : List (Putting T)) → p.worker ≡ w → put_by (p ∷ ps) w ≡ p.put
  put_own w p ps e = rw (eq-eqb p.worker w e) refl

  pub put_other : (w : ℕ) (p : Putting T) (ps : List (Putting T)) → p.worker ≢ w → put_by (p ∷ ps) w ≡ put_by ps w
  put_other w p ps n = rw (ne_eqb p.worker w n) refl

  pub count-append : (w : ℕ) (ps qs : List (Putting T)) → putters_of w (ps ++ qs) ≡ putters_of w ps + putters_of w qs
  count-append w [] qs = sym (zero-add (putters_of w qs))
  count-append w (p ∷ ps) qs =
      ⊎_elim
      (λ (e : p.worker ≡ w). omega (arith, count_own w p (ps ++ qs) e, count_own w p ps e, count-append w ps qs))
      (λ (n : p.worker ≢ w). omega (arith, count_other w p (ps ++ qs) n, count_other w p ps n, count-append w ps qs))
      (same_or_not p.worker w)

  pub nothing_put : (w : ℕ) (ps : List (Putting T)) → putters_of w ps ≡ 0 → put_by ps w ≡ []
  nothing_put w [] none = refl
  nothing_put w (p ∷ ps) none =
      ⊎_elim
      (λ (e : p.worker ≡ w). absurd (omega (arith, count_own w p ps e, none)))
      (λ (n : p.worker ≢ w). put_other w p ps n ∙ nothing_put w ps (sym (count_other w p ps n) ∙ none))
      (same_or_not p.worker w)

  pub nobody : (mail : Mail) (w : ℕ) (ps : List (Putting T)) → ((k : ℕ) (p : Putting T) → k < length ps → (get_or ps k p).worker < length mail) → length mail ≤ w → putters_of w ps ≡ 0
  nobody mail w [] below far = refl
  nobody mail w (p ∷ ps) below far =
      let first : p.worker < length mail = below 0 p (omega arith) in
      count_other w p ps (λ e. omega (arith, first, far, e)) ∙ nobody mail w ps (λ k q low. below (suc k) q (omega (arith, low))) far

  -- ---- in the order of their workers

  later : (m : ℕ) (p : Putting T) (ps : List (Putting T)) → ((k : ℕ) (q : Putting T) → k < length (p ∷ ps) → (get_or (p ∷ ps) k q).worker ≡ k + m) → (k : ℕ) (q : Putting T) → k < length ps → (get_or ps k q).worker ≡ k + suc m
  later m p ps order k q low =
      let it : (get_or ps k q).worker ≡ suc k + m = order (suc k) q (omega (arith, low)) in
      omega (arith, it)

  count_before : (m w : ℕ) (ps : List (Putting T)) → ((k : ℕ) (p : Putting T) → k < length ps → (get_or ps k p).worker ≡ k + m) → w < m → putters_of w ps ≡ 0
  count_before m w [] order before = refl
  count_before m w (p ∷ ps) order before =
      let first : p.worker ≡ 0 + m = order 0 p (omega arith) in
      count_other w p ps (λ e. omega (arith, first, before, e)) ∙ count_before (suc m) w ps (later m p ps order) (omega (arith, before))

  count_in_order : (m w : ℕ) (ps : List (Putting T)) → ((k : ℕ) (p : Putting T) → k < length ps → (get_or ps k p).worker ≡ k + m) → m ≤ w → w < m + length ps → putters_of w ps ≡ 1
  count_in_order m w [] order from to = absurd (omega (arith, from, to))
  count_in_order m w (p ∷ ps) order from to =
      let first : p.worker ≡ 0 + m = order 0 p (omega arith) in
      ⊎_elim
      (λ (e : p.worker ≡ w). count_own w p ps e ∙ ap (λ n. 1 + n) (count_before (suc m) w ps (later m p ps order) (omega (arith, first, e))))
      (λ (n : p.worker ≢ w).
      let apart : m ≢ w = λ e. n (omega (arith, first, e)) in
      count_other w p ps n ∙ count_in_order (suc m) w ps (later m p ps order) (omega (arith, from, apart)) (omega (arith, to)))
      (same_or_not p.worker w)

  -- Putters in the order of their workers are all Putters
  pub in_order : (mail : Mail) (ps : List (Putting T)) → length ps ≡ length mail → ArePuttersOf mail ps → AreAllPuttersOf mail ps
  in_order mail ps many are = record {
    many = many;
    each = λ k p low. (are k p low).1;
    one = λ w low. count_in_order 0 w ps (λ k p below. omega (arith, (are k p below).0)) (omega arith) (omega (arith, low, many));
  }

  all_reversed : (P : Putting T → Type 0) (ps : List (Putting T)) → All P ps → All P (reverse ps)
  all_reversed P [] all = all
  all_reversed P (p ∷ ps) all = subst (λ (l : List (Putting T)). All P l) (sym (reverse-append (p ∷ []) ps)) (All-push P (reverse ps) p (all_reversed P ps (λ k q low. all (suc k) q (omega (arith, low)))) (all 0 p (omega arith)))

  count_reversed : (w : ℕ) (ps : List (Putting T)) → putters_of w (reverse ps) ≡ putters_of w ps
  count_reversed w [] = refl
  count_reversed w (p ∷ ps) =
      let turned = ap (λ (l : List (Putting T)). putters_of w l) (reverse-append (p ∷ []) ps) ∙ count-append w (reverse ps) (p ∷ []) in
      omega (arith, turned, count-append w (p ∷ []) ps, count_reversed w ps)

  -- and so are they backwards
  pub backwards : (mail : Mail) (ps : List (Putting T)) → AreAllPuttersOf mail ps → AreAllPuttersOf mail (reverse ps)
  backwards mail ps are = record {
    many = length-reverse ps ∙ are.many;
    each = all_reversed (IsPutterOf mail) ps are.each;
    one = λ w low. count_reversed w ps ∙ are.one w low;
  }

  -- ---- queue after queue

  between : (ps qs : List (Putting T)) (p d : Putting T) → get_or (ps ++ p ∷ qs) (length ps) d ≡ p
  between [] qs p d = refl
  between (q ∷ ps) qs p d = between ps qs p d

  -- the Putter that comes is one of the mail, and no other of its worker came before
  pub one_of_all : (mail : Mail) (all ps gone : List (Putting T)) (p : Putting T) → AreAllPuttersOf mail all → all ≡ (ps ++ p ∷ []) ++ gone → IsPutterOf mail p × (putters_of p.worker gone ≡ 0)
  one_of_all mail all ps gone p are e =
      let now : all ≡ ps ++ p ∷ gone = e ∙ append_assoc ps (p ∷ []) gone in
      let low : length ps < length all = omega (arith, ap length now, length-append ps (p ∷ gone)) in
      let at : get_or all (length ps) p ≡ p = ap (λ (l : List (Putting T)). get_or l (length ps) p) now ∙ between ps gone p p in
      let is : IsPutterOf mail p = subst (λ (q : Putting T). IsPutterOf mail q) at (are.each (length ps) p low) in
      let count = ap (λ (l : List (Putting T)). putters_of p.worker l) now ∙ count-append p.worker ps (p ∷ gone) in
      (is, omega (arith, are.one p.worker is.0, count, count_own p.worker p gone refl))

  -- The queues of these Putters are drained: `before` is what was taken of each queue before that, and `now` what its pass says now.
  pub record AreDrained (before now : List (List T)) (gone : List (Putting T)) (into : List (ℕ × T)) : Type 0 where
    pub others : (w : ℕ) → putters_of w gone ≡ 0 → (of_worker w into ≡ []) × (get_or now w [] ≡ get_or before w [])
    pub these : (w : ℕ) → putters_of w gone ≡ 1 → put_by gone w ≡ get_or before w [] ++ of_worker w into

  pub one_more : (before now next : List (List T)) (gone : List (Putting T)) (into : List (ℕ × T)) (p : Putting T) (rest : List T) → AreDrained before now gone into → putters_of p.worker gone ≡ 0
      → p.put ≡ get_or now p.worker [] ++ rest → ((w : ℕ) → w ≢ p.worker → get_or next w [] ≡ get_or now w [])
      → AreDrained before next (p ∷ gone) (into ++ map (λ (x : T). (p.worker, x)) rest)
  one_more before now next gone into p rest was new put same =
      let row : List (ℕ × T) = map (λ (x : T). (p.worker, x)) rest in
      let own : (w : ℕ) → p.worker ≡ w → of_worker w (into ++ row) ≡ rest =
      λ w e. subst (λ (v : ℕ). of_worker v (into ++ row) ≡ rest) e
      (of_worker-append p.worker into row ∙ ap (λ (l : List T). l ++ of_worker p.worker row) (was.others p.worker new).0 ∙ of_worker-same p.worker rest) in
      let other : (w : ℕ) → p.worker ≢ w → of_worker w (into ++ row) ≡ of_worker w into =
      λ w n. of_worker-append w into row ∙ ap (λ (l : List T). of_worker w into ++ l) (of_worker-other w p.worker rest n) ∙ append-nil (of_worker w into) in
      record {
        others = λ w none.
            ⊎_elim
            (λ (e : p.worker ≡ w). absurd (omega (arith, count_own w p gone e, none)))
            (λ (n : p.worker ≢ w).
            let it = was.others w (sym (count_other w p gone n) ∙ none) in
            (other w n ∙ it.0, same w (λ e. n (sym e)) ∙ it.1))
            (same_or_not p.worker w);
        these = λ w one.
            ⊎_elim
            (λ (e : p.worker ≡ w).
            put_own w p gone e ∙ put ∙ ap (λ (l : List T). l ++ rest) ((was.others p.worker new).1 ∙ ap (λ (v : ℕ). get_or before v []) e) ∙ ap (λ (l : List T). get_or before w [] ++ l) (sym (own w e)))
            (λ (n : p.worker ≢ w).
            put_other w p gone n ∙ was.these w (sym (count_other w p gone n) ∙ one) ∙ ap (λ (l : List T). get_or before w [] ++ l) (sym (other w n)))
            (same_or_not p.worker w);
      }

  pub delivered : (mail : Mail) (before now : List (List T)) (all : List (Putting T)) (into : List (ℕ × T)) → AreAllPuttersOf mail all → length before ≡ length mail → AreDrained before now all into → IsAllDelivered (put_by all) before into
  delivered mail before now all into are many drained w =
      ⊎_elim
      (λ (low : w < length mail). drained.these w (are.one w low))
      (λ (far : length mail ≤ w).
      let none : putters_of w all ≡ 0 = nobody mail w all (λ k p low. (are.each k p low).0) far in
      nothing_put w all none ∙ sym (ap (λ (l : List T). l ++ of_worker w into) (get_or_past before w [] (omega (arith, far, many))) ∙ (drained.others w none).0))
      (cases_lt w (length mail))
