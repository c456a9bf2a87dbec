-- One write after another is one write.
use Rattle.std.proofs.Common.{◌≡◌, ℕ, ◌+◌, ◌≤◌, List, [], ◌++◌, length, take, drop, sym, refl, ap, ◌∙◌, subst, append_assoc, add-zero, arith, length-append, length-drop}
use Rattle.std.proofs.lemmas.List.{length-take-le, take_at, drop_at, drop-drop, take-append-drop}
use Rattle.wire_out.specs.declared.writer.Writer.{Writer}
use Rattle.wire_out.specs.Written.{over, Wrote, Adds}

place : (w v : List ℕ) (at : ℕ) → at + length w + length v ≡ at + length (w ++ v)
place w v at = simp length-append (omega arith)

over_over : (s w v : List ℕ) (at to : ℕ) → at + length w ≤ length s → to ≡ at + length w → over (over s at w) to v ≡ over s at (w ++ v)
unfolding over
over_over s w v at to h e =
    let t : length (take at s) ≡ at = length-take-le at s (omega arith) in
    let front : length (take at s ++ w) ≡ to = simp length-append (omega arith) in
    let end : List ℕ = drop (at + length w) s in
    let split : take at s ++ (w ++ end) ≡ (take at s ++ w) ++ end = sym (append_assoc (take at s) w end) in
    let a : take to (take at s ++ (w ++ end)) ≡ take at s ++ w = ap (take to) split ∙ take_at (take at s ++ w) end to front in
    let b : drop to (take at s ++ (w ++ end)) ≡ end = ap (drop to) split ∙ drop_at (take at s ++ w) end to front in
    let c : drop (to + length v) (take at s ++ (w ++ end)) ≡ drop (length v) end = sym (drop-drop (length v) to (take at s ++ (w ++ end))) ∙ ap (drop (length v)) b in
    let d : drop (length v) end ≡ drop (at + length (w ++ v)) s = drop-drop (length v) (at + length w) s ∙ ap (λ n. drop n s) (place w v at) in
    (λ i. a i ++ (v ++ (c ∙ d) i)) ∙ simp append_assoc

pub wrote_nothing : (s : List ℕ) (at : ℕ) → Wrote at at s s []
unfolding over
wrote_nothing s at = record { end = sym (add-zero at); bytes = sym (ap (λ n. take at s ++ drop n s) (add-zero at) ∙ take-append-drop at s) }

-- w, and then v after it
pub then_wrote : {s0 s1 s2 w v : List ℕ} {at r r2 : ℕ} → Wrote r at s0 s1 w → Wrote r2 r s1 s2 v → at + length w ≤ length s0 → Wrote r2 at s0 s2 (w ++ v)
then_wrote {s0} {s1} {s2} {w} {v} {at} {r} {r2} a b h =
    record { end = b.end ∙ ap (λ n. n + length v) a.end ∙ place w v at; bytes = b.bytes ∙ ap (λ s. over s r v) a.bytes ∙ over_over s0 w v at r h a.end }

-- from the beginning on
pub wrote_first : {s t w : List ℕ} {r : ℕ} → Wrote r 0 s t w → (r ≡ length w) × (t ≡ w ++ drop r s)
unfolding over
wrote_first {s} {t} {w} {r} a = let e : r ≡ length w = omega arith in (e, a.bytes ∙ ap (λ n. w ++ drop n s) (sym a.end))

-- BY A WRITER: a part
pub adds : (p q : Writer) (w : List ℕ) → q.out.ghost_name ≡ p.out.ghost_name → q.at ≡ p.at + length w → q.at ≤ length p.out.now → q.out.now ≡ over p.out.now p.at w → Adds p q w
unfolding over
adds p q w n e l b =
    let front : length (take p.at p.out.now) ≡ p.at = length-take-le p.at p.out.now (omega arith) in
    let long : length (over p.out.now p.at w) ≡ length p.out.now = simp (length-append, length-drop) (omega arith) in
    record { same = n; wrote = record { end = e; bytes = b }; within = l; long = ap length b ∙ long }

-- nothing
pub adds_nothing : (p : Writer) → p.at ≤ length p.out.now → Adds p p []
adds_nothing p h = record { same = refl; wrote = wrote_nothing p.out.now p.at; within = h; long = refl }

-- w, and then v after it
pub then_adds : {p q r : Writer} {w v : List ℕ} → Adds p q w → Adds q r v → Adds p r (w ++ v)
then_adds {p} {q} {r} {w} {v} a b = record { same = b.same ∙ a.same; wrote = then_wrote a.wrote b.wrote (omega (arith, a.wrote.end)); within = omega arith; long = b.long ∙ a.long }

-- from the beginning on
pub adds_first : {p q : Writer} {w : List ℕ} → Adds p q w → p.at ≡ 0 → (q.at ≡ length w) × (q.out.now ≡ w ++ drop q.at p.out.now)
adds_first {p} {q} {w} a e = wrote_first (subst (λ n. Wrote q.at n p.out.now q.out.now w) e a.wrote)

pub adds_as : {p q : Writer} {w v : List ℕ} → Adds p q w → w ≡ v → Adds p q v
adds_as {p} {q} {w} {v} a e = subst (λ x. Adds p q x) e a
