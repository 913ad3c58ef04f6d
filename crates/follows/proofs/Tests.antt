-- Of tests alone: what a turn makes of who is reached and what is marked.
use Rattle.std.proofs.Common.{◌≡◌, Bool, true, false, cond, not, ◌&&◌, ◌||◌, sym, refl, ◌∙◌, arith}
use Rattle.std.proofs.lemmas.Bool.{cond_both, or_right}
use Rattle.std.proofs.lemmas.Bool.Decides.{nat_tests}

-- gu and gw, of the group that runs; du and dw, done before; x, reached after the step; b, reached before
pub turn_reached : (at gu gw du dw x b : Bool) → (gu ≡ true → (du ≡ false) × (at ≡ true → x ≡ not gw)) → (gw ≡ true → (dw ≡ false) × (at ≡ true → x ≡ not gu)) → (at ≡ false → x ≡ b)
    → cond (at && (gu || gw)) (not (gu && gw)) (cond (du || dw) x b) ≡ cond ((du || gu) || (dw || gw)) x b
turn_reached true true gw du dw x b p q r = let a = (p refl).0 in let c = (p refl).1 refl in simp (a, c)
turn_reached true false true true dw x b p q r = let c = (q refl).1 refl in simp c
turn_reached true false true false dw x b p q r = let a = (q refl).0 in let c = (q refl).1 refl in simp (a, c)
turn_reached true false false true dw x b p q r = refl
turn_reached true false false false true x b p q r = refl
turn_reached true false false false false x b p q r = refl
turn_reached false gu gw du dw x b p q r = let a = r refl in simp a (cond_both (du || dw) b b (λ z. z ≡ cond ((du || gu) || (dw || gw)) b b) (λ _. same) (λ _. same))
  where
    same : b ≡ cond ((du || gu) || (dw || gw)) b b
    same = cond_both ((du || gu) || (dw || gw)) b b (λ z. b ≡ z) (λ _. refl) (λ _. refl)

-- f, among what the group sends; su and sw, what each sends
pub turn_marked : (f gu gw du dw su sw x b : Bool) → (gu ≡ true → (du ≡ false) × (su ≡ f) × (x ≡ not gw)) → (gw ≡ true → (dw ≡ false) × (sw ≡ f) × (x ≡ not gu))
    → cond (f && (gu || gw)) (not (gu && gw)) (cond ((du && su) || (dw && sw)) x b) ≡ cond (((du || gu) && su) || ((dw || gw) && sw)) x b
turn_marked f true true du dw su sw x b p q = let a = p refl in let c = q refl in let a0 = a.0 in let a1 = a.1 in let a2 = a.2 in let c0 = c.0 in let c1 = c.1 in grind (arith, nat_tests)
turn_marked f true false du dw su sw x b p q = let a = p refl in let a0 = a.0 in let a1 = a.1 in let a2 = a.2 in grind (arith, nat_tests)
turn_marked f false true du dw su sw x b p q = let c = q refl in let c0 = c.0 in let c1 = c.1 in let c2 = c.2 in grind (arith, nat_tests)
turn_marked f false false du dw su sw x b p q = grind (arith, nat_tests)

-- r, runs; l and x, live and reached; d, done before; g, of the group
pub done_inside : (r l x y d g : Bool) → r ≡ true → l ≡ true → x ≡ false → g ≡ true → (r && ((l && not x) || y)) ≡ (d || g)
done_inside r l x y true g a b c e = simp (a, b, c)
done_inside r l x y false g a b c e = simp (a, b, c, e)

pub done_outside : (r l x y g : Bool) → x ≡ true → g ≡ false → (r && ((l && not x) || y)) ≡ ((r && y) || g)
done_outside true true x true g a b = simp a
done_outside true true x false g a b = simp (a, b)
done_outside true false x true g a b = refl
done_outside true false x false g a b = sym b
done_outside false l x y g a b = sym b

-- where neither runs, the step reaches nothing
pub end_reached : (ru rw b at m : Bool) → cond (ru || rw) (b || (at && ((ru || rw) && m))) b ≡ (b || (at && ((ru || rw) && m)))
end_reached true rw b at m = refl
end_reached false true b at m = refl
end_reached false false true at m = refl
end_reached false false false true m = refl
end_reached false false false false m = refl

-- m, marked; b, reached before; x, reached after; d, whether one of the two is done
pub group_tests : (m b x d : Bool) → x ≡ (b || m) → (not m && not (cond d x b)) ≡ not x
group_tests true b x true e = let a : x ≡ true = e ∙ or_right b true refl in simp a
group_tests true b x false e = let a : x ≡ true = e ∙ or_right b true refl in simp a
group_tests false b x true e = refl
group_tests false true x false e = simp e
group_tests false false x false e = simp e

-- b, reached now; at, at the receiver; g, marked and run by one; t, together in each group that is taken
pub ahead_tests : (e b at g t : Bool) → e ≡ not b → t ≡ not g → (e && (not at || t)) ≡ not (b || (at && g))
ahead_tests e true at g t p q = simp p
ahead_tests e false true g t p q = simp (p, q)
ahead_tests e false false g t p q = simp p

pub or_none : (z : Bool) → z ≡ (z || false)
or_none true = refl
or_none false = refl
