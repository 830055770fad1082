-- Cells past the image's own play no part in a request: what it gives is what it gives on the image's own cells, with the others behind them.
-- Assumes nothing.
use Rattle.std.proofs.Math.Path.{◌≡◌, refl}
use Rattle.std.proofs.Common.{◌∙◌, arith, drop_at}
use Rattle.std.specs.Prelude.{Bool, List, [], ◌++◌, ℕ, ◌+◌, ◌<◌, ltb, eqb, get_or}
use Rattle.std.proofs.Math.Bool.{true, false}
use Rattle.std.proofs.Math.ListN.{length, set, length-set, get_or-append}
use Rattle.std.proofs.lemmas.List.{set-append_left}
use Rattle.definitions.specs.Choice.{pick}
use Rattle.definitions.specs.Image.{cell_count, base_of, Procedure, Image, procedure_at}
use Rattle.definitions.specs.Running.{trace_words, Ran, Given}
use Rattle.definitions.specs.Requests.{Served, Called, carried_out, zeroed, argument_values, ended, called_on}
use Rattle.definitions.specs.declared.Answer.TheVariants.{Refused}
use Rattle.laws.specs.Cells.{has_within}
use Rattle.requests.specs.Cells.{has_cell_in}
use Rattle.requests.specs.OwnCells.{clear_on, poke_on, peek_on}
use Rattle.requests.specs.SpareRuns.{Both, both_on, both_halt, WideGiven, wide_gave, procedure_spare}

-- the answer, with the other cells behind those that are left
abbrev pub behind : List ℕ → Served → Served
behind rest s = (s.0, s.1 ++ rest)

abbrev pub behind_call : List ℕ → Called → Called
behind_call rest s = (s.0, s.1 ++ rest, s.2)

pub clear_spare : (image : Image) (cs rest : List ℕ) → length cs ≡ cell_count image.arrays
    → ◌≡◌ {A = Served} (carried_out 0, zeroed image (cs ++ rest)) (behind rest (clear_on (length cs)))
unfolding clear_on
clear_spare image cs rest h = rw (h, drop_at cs rest (cell_count image.arrays) h)

module _ (arrays cs rest : List ℕ) (h : length cs ≡ cell_count arrays) (a i : ℕ) where
  pub poke_spare : (v : ℕ) → poke_on arrays (cs ++ rest) a i v ≡ behind rest (poke_on arrays cs a i v)
  unfolding poke_on
  poke_spare v = go (has_cell_in arrays a i) refl
    where
      go : (b : Bool) → has_cell_in arrays a i ≡ b
          → ◌≡◌ {A = Served} (pick b (carried_out 0, set (cs ++ rest) (base_of arrays a + i) v) (Refused 17 0, cs ++ rest))
          (behind rest (pick b (carried_out 0, set cs (base_of arrays a + i) v) (Refused 17 0, cs)))
      go true e =
          let s : base_of arrays a + i < length cs = (let r = has_within arrays a i e in omega arith) in rw (set-append_left cs rest (base_of arrays a + i) v s)
      go false e = refl

  pub peek_spare : peek_on arrays (cs ++ rest) a i ≡ behind rest (peek_on arrays cs a i)
  unfolding peek_on
  peek_spare = go (has_cell_in arrays a i) refl
    where
      go : (b : Bool) → has_cell_in arrays a i ≡ b
          → ◌≡◌ {A = Served} (pick b (carried_out (get_or (cs ++ rest) (base_of arrays a + i) 0), cs ++ rest) (Refused 17 0, cs ++ rest))
          (behind rest (pick b (carried_out (get_or cs (base_of arrays a + i) 0), cs) (Refused 17 0, cs)))
      go true e =
          let s : base_of arrays a + i < length cs = (let r = has_within arrays a i e in omega arith) in rw (get_or-append cs rest 0 (base_of arrays a + i) s)
      go false e = refl

  -- a request keeps the number of cells
  pub poke_long : (v : ℕ) → length (poke_on arrays cs a i v).1 ≡ cell_count arrays
  unfolding poke_on
  poke_long v = go (has_cell_in arrays a i)
    where
      go : (b : Bool) → length (pick {A = Served} b (carried_out 0, set cs (base_of arrays a + i) v) (Refused 17 0, cs)).1 ≡ cell_count arrays
      go true = length-set cs (base_of arrays a + i) v ∙ h
      go false = h

  pub peek_long : length (peek_on arrays cs a i).1 ≡ cell_count arrays
  unfolding peek_on
  peek_long = go (has_cell_in arrays a i)
    where
      go : (b : Bool) → length (pick {A = Served} b (carried_out (get_or cs (base_of arrays a + i) 0), cs) (Refused 17 0, cs)).1 ≡ cell_count arrays
      go true = h
      go false = h

-- how two calls compare: the same answer and trace, the rest behind the cells, which stay as many
pub record Spares (arrays rest : List ℕ) (x y : Called) : Type 0 where
  pub same : y ≡ behind_call rest x
  pub long : length x.1 ≡ cell_count arrays

ended_spare : (arrays rest : List ℕ) (p : Procedure) (cs : List ℕ) → length cs ≡ cell_count arrays
    → (C : _) (budget : ℕ) (x y : Ran (List ℕ) Given) → Both (WideGiven {T = List ℕ} C budget arrays rest) x y
    → Spares arrays rest (ended p cs x) (ended p (cs ++ rest) y)
unfolding ended
ended_spare arrays rest p cs h C budget x y (both_on a b z t (wide_gave v ds k)) = record { same = refl; long = k }
ended_spare arrays rest p cs h C budget x y (both_halt n l z t) = record { same = refl; long = h }

pub call_spare : (image : Image) (cs rest : List ℕ) → length cs ≡ cell_count image.arrays → (f : ℕ) (arguments : List ℕ) (budget room : ℕ)
    → Spares image.arrays rest (called_on image cs f arguments budget room) (called_on image (cs ++ rest) f arguments budget room)
unfolding called_on
call_spare image cs rest h f arguments budget room =
    go (ltb f (length image.procedures)) (eqb (length arguments) (procedure_at image.procedures f).parameters)
    (ended_spare image.arrays rest (procedure_at image.procedures f) cs h (trace_words room) budget _ _
    (procedure_spare (trace_words room) budget image.arrays rest image.procedures (length image.procedures) f
    (argument_values (procedure_at image.procedures f).types arguments) 0 [] cs h))
  where
    go : (b d : Bool) {x y : Called} → Spares image.arrays rest x y
        → Spares image.arrays rest (pick b (pick d x (Refused 18 0, cs, [])) (Refused 17 0, cs, []))
        (pick b (pick d y (Refused 18 0, cs ++ rest, [])) (Refused 17 0, cs ++ rest, []))
    go true true s = s
    go true false s = record { same = refl; long = h }
    go false d s = record { same = refl; long = h }
