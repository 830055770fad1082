-- The table with one array more, or one procedure more. Assumes nothing.
use Rattle.std.specs.Prelude.{ℕ, suc, ◌+◌, ◌≤◌, ◌<◌, List, [], ◌∷◌, ◌++◌, map, ◌≡◌, refl, length, set, replicate}
use Rattle.std.proofs.Common.{sym, ap, ◌∙◌, zero-add, arith, length-append}
use Rattle.definitions.specs.Image.{array_length, cell_count, Procedure}
use Rattle.tables.specs.Table.{padded, bases_from, body_place, places, body_places, arities, table_of, params_in}
use Rattle.tables.specs.Segments.{set_past, drop_past, padded_length, padded_more, segment_more, map_length, map_more}

pub table_none : table_of [] [] ≡ replicate 129 0
unfolding table_of padded bases_from
table_none = refl

pub bases_length : (c : ℕ) (ws : List ℕ) → length (bases_from c ws) ≡ length ws
unfolding bases_from
bases_length c [] = refl
bases_length c (w ∷ ws) = ap suc (bases_length (c + array_length w) ws)

bases_more : (c : ℕ) (ws : List ℕ) (w : ℕ) → bases_from c (ws ++ (w ∷ [])) ≡ bases_from c ws ++ ((c + cell_count ws) ∷ [])
unfolding bases_from cell_count
bases_more c [] w = let e : c ≡ c + 0 = omega arith in rw (← e)
bases_more c (v ∷ ws) w =
    let e : c + array_length v + cell_count ws ≡ c + (array_length v + cell_count ws) = omega arith in
    ap (λ (l : List ℕ). c ∷ l) (bases_more (c + array_length v) ws w ∙ ap (λ (n : ℕ). bases_from (c + array_length v) ws ++ (n ∷ [])) e)

-- one array more: its word, where its cells begin, the number of arrays
pub table_array : (ws : List ℕ) (ps : List Procedure) (n cells w : ℕ) → n ≡ length ws → cells ≡ cell_count ws → length ws < 16
    → set (set (set (table_of ws ps) n w) (16 + n) cells) 32 (n + 1) ≡ table_of (ws ++ (w ∷ [])) ps
unfolding table_of
table_array ws ps n cells w hn hc h = rw (hn, hc) (first ∙ second ∙ third)
  where
    tail : List ℕ
    tail = padded 32 (places ps) ++ (padded 32 (body_places ps) ++ padded 32 (arities ps))

    -- after the word
    first : set (set (set (padded 16 ws ++ (padded 16 (bases_from 0 ws) ++ (length ws ∷ tail))) (length ws) w) (16 + length ws) (cell_count ws)) 32 (length ws + 1)
        ≡ set (set (padded 16 (ws ++ (w ∷ [])) ++ (padded 16 (bases_from 0 ws) ++ (length ws ∷ tail))) (16 + length ws) (cell_count ws)) 32 (length ws + 1)
    first = rw (segment_more 16 ws (padded 16 (bases_from 0 ws) ++ (length ws ∷ tail)) w h)

    long : length (padded 16 (ws ++ (w ∷ []))) ≡ 16
    long = padded_length 16 (ws ++ (w ∷ [])) (rw (length-append ws (w ∷ [])) (omega arith))

    -- after where its cells begin
    second : set (set (padded 16 (ws ++ (w ∷ [])) ++ (padded 16 (bases_from 0 ws) ++ (length ws ∷ tail))) (16 + length ws) (cell_count ws)) 32 (length ws + 1)
        ≡ set (padded 16 (ws ++ (w ∷ [])) ++ (padded 16 (bases_from 0 (ws ++ (w ∷ []))) ++ (length ws ∷ tail))) 32 (length ws + 1)
    second =
        let b = bases_length 0 ws in
        let e : padded 16 (bases_from 0 ws ++ (cell_count ws ∷ [])) ≡ padded 16 (bases_from 0 (ws ++ (w ∷ [])))
        = ap (padded 16) (ap (λ (z : ℕ). bases_from 0 ws ++ (z ∷ [])) (sym (zero-add (cell_count ws))) ∙ sym (bases_more 0 ws w)) in
        rw (set_past 16 (padded 16 (ws ++ (w ∷ []))) (padded 16 (bases_from 0 ws) ++ (length ws ∷ tail)) (length ws) (cell_count ws) long)
        (ap (λ (l : List ℕ). set (padded 16 (ws ++ (w ∷ [])) ++ l) 32 (length ws + 1))
        (ap (λ (k : ℕ). set (padded 16 (bases_from 0 ws) ++ (length ws ∷ tail)) k (cell_count ws)) (sym b)
        ∙ segment_more 16 (bases_from 0 ws) (length ws ∷ tail) (cell_count ws) (omega arith)
        ∙ ap (λ (l : List ℕ). l ++ (length ws ∷ tail)) e))

    -- after the number of arrays
    third : set (padded 16 (ws ++ (w ∷ [])) ++ (padded 16 (bases_from 0 (ws ++ (w ∷ []))) ++ (length ws ∷ tail))) 32 (length ws + 1)
        ≡ padded 16 (ws ++ (w ∷ [])) ++ (padded 16 (bases_from 0 (ws ++ (w ∷ []))) ++ (length (ws ++ (w ∷ [])) ∷ tail))
    third =
        let l = length-append ws (w ∷ []) in
        let b = padded_length 16 (bases_from 0 (ws ++ (w ∷ []))) (rw (bases_length 0 (ws ++ (w ∷ []))) (omega arith)) in
        set_past 16 (padded 16 (ws ++ (w ∷ []))) (padded 16 (bases_from 0 (ws ++ (w ∷ []))) ++ (length ws ∷ tail)) 16 (length ws + 1) long
        ∙ ap (λ (x : List ℕ). padded 16 (ws ++ (w ∷ [])) ++ x)
        (set_past 16 (padded 16 (bases_from 0 (ws ++ (w ∷ [])))) (length ws ∷ tail) 0 (length ws + 1) b
        ∙ ap (λ (k : ℕ). padded 16 (bases_from 0 (ws ++ (w ∷ []))) ++ (k ∷ tail)) (sym l))

-- one procedure more: its place, its body's place, the number of its parameters
pub table_procedure : (ws : List ℕ) (ps : List Procedure) (p : Procedure) (me : ℕ) → me ≡ length ps → length ws ≤ 16 → me < 32
    → set (set (set (table_of ws ps) (33 + me) p.place) (65 + me) (body_place p)) (97 + me) p.parameters ≡ table_of ws (ps ++ (p ∷ []))
unfolding table_of
table_procedure ws ps p me hm hw h = rw hm (
    let l : length ps < 32 = omega arith in
    rw (
      inner (33 + length ps) (length ps) (padded 32 (places ps) ++ (padded 32 (body_places ps) ++ padded 32 (arities ps))) p.place (omega arith),
      add_place l,
      inner (65 + length ps) (32 + length ps) (padded 32 (places (ps ++ (p ∷ []))) ++ (padded 32 (body_places ps) ++ padded 32 (arities ps))) (body_place p) (omega arith),
      add_body l,
      inner (97 + length ps) (32 + (32 + length ps)) (padded 32 (places (ps ++ (p ∷ []))) ++ (padded 32 (body_places (ps ++ (p ∷ []))) ++ padded 32 (arities ps))) p.parameters
          (omega arith),
    )
    (ap (λ (x : List ℕ). padded 16 ws ++ (padded 16 (bases_from 0 ws) ++ (length ws ∷ x))) (add_arity l)))
  where
    -- past the arrays
    inner : (k i : ℕ) (x : List ℕ) (v : ℕ) → k ≡ 16 + (16 + suc i)
        → set (padded 16 ws ++ (padded 16 (bases_from 0 ws) ++ (length ws ∷ x))) k v ≡ padded 16 ws ++ (padded 16 (bases_from 0 ws) ++ (length ws ∷ set x i v))
    inner k i x v e =
        rw (e, set_past 16 (padded 16 ws) (padded 16 (bases_from 0 ws) ++ (length ws ∷ x)) (16 + suc i) v (padded_length 16 ws hw))
        (ap (λ (y : List ℕ). padded 16 ws ++ y)
        (set_past 16 (padded 16 (bases_from 0 ws)) (length ws ∷ x) (suc i) v (padded_length 16 (bases_from 0 ws) (rw (bases_length 0 ws) hw))))

    -- a list of the procedures' numbers, with the last one's
    more : (f : Procedure → ℕ) (y : List ℕ) → length ps < 32 → set (padded 32 (map f ps) ++ y) (length ps) (f p) ≡ padded 32 (map f (ps ++ (p ∷ []))) ++ y
    more f y l =
        let e = map_length f ps in
        ap (λ (k : ℕ). set (padded 32 (map f ps) ++ y) k (f p)) (sym e) ∙ segment_more 32 (map f ps) y (f p) (omega arith)
        ∙ ap (λ (z : List ℕ). padded 32 z ++ y) (sym (map_more f ps p))

    full : (f : Procedure → ℕ) → length ps < 32 → length (padded 32 (map f (ps ++ (p ∷ [])))) ≡ 32
    full f l =
        let e = map_length f (ps ++ (p ∷ [])) in
        let n = length-append ps (p ∷ []) in
        padded_length 32 (map f (ps ++ (p ∷ []))) (omega arith)

    add_place : length ps < 32 → set (padded 32 (places ps) ++ (padded 32 (body_places ps) ++ padded 32 (arities ps))) (length ps) p.place
        ≡ padded 32 (places (ps ++ (p ∷ []))) ++ (padded 32 (body_places ps) ++ padded 32 (arities ps))
    add_place l = more (λ (q : Procedure). q.place) (padded 32 (body_places ps) ++ padded 32 (arities ps)) l

    add_body : length ps < 32
        → set (padded 32 (places (ps ++ (p ∷ []))) ++ (padded 32 (body_places ps) ++ padded 32 (arities ps))) (32 + length ps) (body_place p)
        ≡ padded 32 (places (ps ++ (p ∷ []))) ++ (padded 32 (body_places (ps ++ (p ∷ []))) ++ padded 32 (arities ps))
    add_body l =
        set_past 32 (padded 32 (places (ps ++ (p ∷ [])))) (padded 32 (body_places ps) ++ padded 32 (arities ps)) (length ps) (body_place p) (full (λ (q : Procedure). q.place) l)
        ∙ ap (λ (y : List ℕ). padded 32 (places (ps ++ (p ∷ []))) ++ y) (more body_place (padded 32 (arities ps)) l)

    add_arity : length ps < 32
        → set (padded 32 (places (ps ++ (p ∷ []))) ++ (padded 32 (body_places (ps ++ (p ∷ []))) ++ padded 32 (arities ps))) (32 + (32 + length ps)) p.parameters
        ≡ padded 32 (places (ps ++ (p ∷ []))) ++ (padded 32 (body_places (ps ++ (p ∷ []))) ++ padded 32 (arities (ps ++ (p ∷ []))))
    add_arity l =
        let e = map_length (λ (q : Procedure). q.parameters) ps in
        set_past 32 (padded 32 (places (ps ++ (p ∷ [])))) (padded 32 (body_places (ps ++ (p ∷ []))) ++ padded 32 (arities ps)) (32 + length ps) p.parameters
        (full (λ (q : Procedure). q.place) l)
        ∙ ap (λ (y : List ℕ). padded 32 (places (ps ++ (p ∷ []))) ++ y)
        (set_past 32 (padded 32 (body_places (ps ++ (p ∷ [])))) (padded 32 (arities ps)) (length ps) p.parameters (full body_place l)
        ∙ ap (λ (y : List ℕ). padded 32 (body_places (ps ++ (p ∷ []))) ++ y)
        (ap (λ (k : ℕ). set (padded 32 (arities ps)) k p.parameters) (sym e) ∙ padded_more 32 (arities ps) p.parameters (omega arith)
        ∙ ap (padded 32) (sym (map_more (λ (q : Procedure). q.parameters) ps p))))

-- the numbers of parameters
pub table_params : (ws : List ℕ) (ps : List Procedure) → length ws ≤ 16 → length ps ≤ 32 → params_in (table_of ws ps) ≡ padded 32 (arities ps)
unfolding table_of
table_params ws ps hw hp =
    let full : (f : Procedure → ℕ) → length (padded 32 (map f ps)) ≡ 32 = λ f. padded_length 32 (map f ps) (rw (map_length f ps) hp) in
    drop_past 16 (padded 16 ws) _ 81 (padded_length 16 ws hw)
    ∙ drop_past 16 (padded 16 (bases_from 0 ws)) _ 65 (padded_length 16 (bases_from 0 ws) (rw (bases_length 0 ws) hw))
    ∙ drop_past 32 (padded 32 (places ps)) _ 32 (full (λ (q : Procedure). q.place))
    ∙ drop_past 32 (padded 32 (body_places ps)) _ 0 (full body_place)

pub params_more : (ws : List ℕ) (ps : List Procedure) (p : Procedure) (me : ℕ) → me ≡ length ps → length ws ≤ 16 → me < 32
    → params_in (table_of ws (ps ++ (p ∷ []))) ≡ set (params_in (table_of ws ps)) me p.parameters
params_more ws ps p me hm hw h =
    let l = length-append ps (p ∷ []) in
    let e = map_length (λ (q : Procedure). q.parameters) ps in
    table_params ws (ps ++ (p ∷ [])) hw (omega arith) ∙ ap (padded 32) (map_more (λ (q : Procedure). q.parameters) ps p)
    ∙ sym (ap (λ (x : List ℕ). set x me p.parameters) (table_params ws ps hw (omega arith))
    ∙ ap (λ (k : ℕ). set (padded 32 (arities ps)) k p.parameters) (hm ∙ sym e) ∙ padded_more 32 (arities ps) p.parameters (omega arith))
