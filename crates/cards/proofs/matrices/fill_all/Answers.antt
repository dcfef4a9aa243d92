-- Each matrix stands behind its key, and the next line behind its entries (`proofs/Standing.antt`).
use Rattle.std.proofs.Common.{◌∙◌, ◌*◌, ap, refl, arith, List, ℕ}
use Rattle.std.specs.Float.{binary32}
use Rattle.grids.specs.Grid.{run}
use Rattle.card_text.specs.Lines.{ends, behind_lines}
use Rattle.card_text.specs.Card.{a_key, q_key, h_key, r_key}
use Rattle.cards.specs.Read.{floats}
use Rattle.cards.proofs.Standing.{stands}
use Rattle.cards.proofs.matrices.fill_all.Goals as goal

pub slice_bounds-fill-count : goal.slice_bounds-fill-count
unfolding ends behind_lines
slice_bounds-fill-count c =
    let t = c.args.text.now in
    let a = stands 8 (c.args.n * c.args.n) a_key t refl c.requires.0.a t refl in
    omega (arith, a.within)

pub slice_bounds-fill-start : goal.slice_bounds-fill-start
unfolding ends behind_lines
slice_bounds-fill-start c =
    let t = c.args.text.now in
    let a = stands 8 (c.args.n * c.args.n) a_key t refl c.requires.0.a t refl in
    omega (arith, a.within)

pub fill-line_q-requires : goal.fill-line_q-requires
unfolding ends behind_lines
fill-line_q-requires c =
    let t = c.args.text.now in
    let a = stands 8 (c.args.n * c.args.n) a_key t refl c.requires.0.a t refl in
    (a.fields_here, c.requires.1)

pub slice_bounds-fill-count-2 : goal.slice_bounds-fill-count-2
unfolding ends behind_lines
slice_bounds-fill-count-2 c =
    let t = c.args.text.now in
    let a = stands 8 (c.args.n * c.args.n) a_key t refl c.requires.0.a t refl in
    let q = stands 8 (c.args.n * c.args.n) q_key (behind_lines 1 t) refl c.requires.0.q _ (a.next _ c.fill-line_q.ensures.behind) in
    omega (arith, q.within)

pub slice_bounds-fill-start-2 : goal.slice_bounds-fill-start-2
unfolding ends behind_lines
slice_bounds-fill-start-2 c =
    let t = c.args.text.now in
    let a = stands 8 (c.args.n * c.args.n) a_key t refl c.requires.0.a t refl in
    let q = stands 8 (c.args.n * c.args.n) q_key (behind_lines 1 t) refl c.requires.0.q _ (a.next _ c.fill-line_q.ensures.behind) in
    omega (arith, q.within)

pub fill-line_h-requires : goal.fill-line_h-requires
unfolding ends behind_lines
fill-line_h-requires c =
    let t = c.args.text.now in
    let a = stands 8 (c.args.n * c.args.n) a_key t refl c.requires.0.a t refl in
    let q = stands 8 (c.args.n * c.args.n) q_key (behind_lines 1 t) refl c.requires.0.q _ (a.next _ c.fill-line_q.ensures.behind) in
    (q.fields_here, c.requires.2)

pub slice_bounds-fill-count-3 : goal.slice_bounds-fill-count-3
unfolding ends behind_lines
slice_bounds-fill-count-3 c =
    let t = c.args.text.now in
    let a = stands 8 (c.args.n * c.args.n) a_key t refl c.requires.0.a t refl in
    let q = stands 8 (c.args.n * c.args.n) q_key (behind_lines 1 t) refl c.requires.0.q _ (a.next _ c.fill-line_q.ensures.behind) in
    let h = stands 8 (c.args.m * c.args.n) h_key (behind_lines 2 t) refl c.requires.0.h _ (q.next _ c.fill-line_h.ensures.behind) in
    omega (arith, h.within)

pub slice_bounds-fill-start-3 : goal.slice_bounds-fill-start-3
unfolding ends behind_lines
slice_bounds-fill-start-3 c =
    let t = c.args.text.now in
    let a = stands 8 (c.args.n * c.args.n) a_key t refl c.requires.0.a t refl in
    let q = stands 8 (c.args.n * c.args.n) q_key (behind_lines 1 t) refl c.requires.0.q _ (a.next _ c.fill-line_q.ensures.behind) in
    let h = stands 8 (c.args.m * c.args.n) h_key (behind_lines 2 t) refl c.requires.0.h _ (q.next _ c.fill-line_h.ensures.behind) in
    omega (arith, h.within)

pub fill-line_r-requires : goal.fill-line_r-requires
unfolding ends behind_lines
fill-line_r-requires c =
    let t = c.args.text.now in
    let a = stands 8 (c.args.n * c.args.n) a_key t refl c.requires.0.a t refl in
    let q = stands 8 (c.args.n * c.args.n) q_key (behind_lines 1 t) refl c.requires.0.q _ (a.next _ c.fill-line_q.ensures.behind) in
    let h = stands 8 (c.args.m * c.args.n) h_key (behind_lines 2 t) refl c.requires.0.h _ (q.next _ c.fill-line_h.ensures.behind) in
    (h.fields_here, c.requires.3)

pub slice_bounds-fill-count-4 : goal.slice_bounds-fill-count-4
unfolding ends behind_lines
slice_bounds-fill-count-4 c =
    let t = c.args.text.now in
    let a = stands 8 (c.args.n * c.args.n) a_key t refl c.requires.0.a t refl in
    let q = stands 8 (c.args.n * c.args.n) q_key (behind_lines 1 t) refl c.requires.0.q _ (a.next _ c.fill-line_q.ensures.behind) in
    let h = stands 8 (c.args.m * c.args.n) h_key (behind_lines 2 t) refl c.requires.0.h _ (q.next _ c.fill-line_h.ensures.behind) in
    let r = stands 8 (c.args.m * c.args.m) r_key (behind_lines 3 t) refl c.requires.0.r _ (h.next _ c.fill-line_r.ensures.behind) in
    omega (arith, r.within)

pub slice_bounds-fill-start-4 : goal.slice_bounds-fill-start-4
unfolding ends behind_lines
slice_bounds-fill-start-4 c =
    let t = c.args.text.now in
    let a = stands 8 (c.args.n * c.args.n) a_key t refl c.requires.0.a t refl in
    let q = stands 8 (c.args.n * c.args.n) q_key (behind_lines 1 t) refl c.requires.0.q _ (a.next _ c.fill-line_q.ensures.behind) in
    let h = stands 8 (c.args.m * c.args.n) h_key (behind_lines 2 t) refl c.requires.0.h _ (q.next _ c.fill-line_h.ensures.behind) in
    let r = stands 8 (c.args.m * c.args.m) r_key (behind_lines 3 t) refl c.requires.0.r _ (h.next _ c.fill-line_r.ensures.behind) in
    omega (arith, r.within)

pub fill-requires : goal.fill-requires
unfolding ends behind_lines
fill-requires c =
    let t = c.args.text.now in
    let a = stands 8 (c.args.n * c.args.n) a_key t refl c.requires.0.a t refl in
    let q = stands 8 (c.args.n * c.args.n) q_key (behind_lines 1 t) refl c.requires.0.q _ (a.next _ c.fill-line_q.ensures.behind) in
    let h = stands 8 (c.args.m * c.args.n) h_key (behind_lines 2 t) refl c.requires.0.h _ (q.next _ c.fill-line_h.ensures.behind) in
    let r = stands 8 (c.args.m * c.args.m) r_key (behind_lines 3 t) refl c.requires.0.r _ (h.next _ c.fill-line_r.ensures.behind) in
    (r.fields_here, c.requires.4)

pub returns-clause-a : goal.returns-clause-a
unfolding ends behind_lines
returns-clause-a c =
    let t = c.args.text.now in
    let a = stands 8 (c.args.n * c.args.n) a_key t refl c.requires.0.a t refl in
    c.fill-line_q.ensures.filled ∙ ap (λ (es : List ℕ). run 0 (c.args.n * c.args.n) (floats binary32 es) c.args.a.now) a.says_here

pub returns-clause-q : goal.returns-clause-q
unfolding ends behind_lines
returns-clause-q c =
    let t = c.args.text.now in
    let a = stands 8 (c.args.n * c.args.n) a_key t refl c.requires.0.a t refl in
    let q = stands 8 (c.args.n * c.args.n) q_key (behind_lines 1 t) refl c.requires.0.q _ (a.next _ c.fill-line_q.ensures.behind) in
    c.fill-line_h.ensures.filled ∙ ap (λ (es : List ℕ). run 0 (c.args.n * c.args.n) (floats binary32 es) c.args.q.now) q.says_here

pub returns-clause-h : goal.returns-clause-h
unfolding ends behind_lines
returns-clause-h c =
    let t = c.args.text.now in
    let a = stands 8 (c.args.n * c.args.n) a_key t refl c.requires.0.a t refl in
    let q = stands 8 (c.args.n * c.args.n) q_key (behind_lines 1 t) refl c.requires.0.q _ (a.next _ c.fill-line_q.ensures.behind) in
    let h = stands 8 (c.args.m * c.args.n) h_key (behind_lines 2 t) refl c.requires.0.h _ (q.next _ c.fill-line_h.ensures.behind) in
    c.fill-line_r.ensures.filled ∙ ap (λ (es : List ℕ). run 0 (c.args.m * c.args.n) (floats binary32 es) c.args.h.now) h.says_here

pub returns-clause-r : goal.returns-clause-r
unfolding ends behind_lines
returns-clause-r c =
    let t = c.args.text.now in
    let a = stands 8 (c.args.n * c.args.n) a_key t refl c.requires.0.a t refl in
    let q = stands 8 (c.args.n * c.args.n) q_key (behind_lines 1 t) refl c.requires.0.q _ (a.next _ c.fill-line_q.ensures.behind) in
    let h = stands 8 (c.args.m * c.args.n) h_key (behind_lines 2 t) refl c.requires.0.h _ (q.next _ c.fill-line_h.ensures.behind) in
    let r = stands 8 (c.args.m * c.args.m) r_key (behind_lines 3 t) refl c.requires.0.r _ (h.next _ c.fill-line_r.ensures.behind) in
    c.fill.ensures.filled ∙ ap (λ (es : List ℕ). run 0 (c.args.m * c.args.m) (floats binary32 es) c.args.r.now) r.says_here
