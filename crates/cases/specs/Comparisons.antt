-- Document 02, wish 13, by computing: recordings of a board probe, held against the trace of a routine with an index, a branch and a call, and one clause
-- of the wish after the other. Assumes nothing.
use Rattle.std.specs.Prelude.{ℕ, ◌≡◌, refl, List, [], ◌∷◌, ◌++◌}
use Rattle.definitions.specs.declared.Compared.{Compared}
use Rattle.definitions.specs.declared.Compared.TheVariants.{Agree, Part}
use Rattle.definitions.specs.Comparing.{trace_entries, probe_entries, same_entry, compared_after, compared}

-- a loop's bounds, an index, a branch, a call, a shift count, a return
abbrev pub trace : List ℕ
trace =
    0x20000007 ∷ 0 ∷ 0x30000007 ∷ 4 ∷ 0x4000000E ∷ 3 ∷ 0x1000000B ∷ 1 ∷ 0x70000010 ∷ 0 ∷ 0x90000012 ∷ 8 ∷ 0x80000013 ∷ 0 ∷ []

-- what a probe records of it
abbrev pub recording : List ℕ
recording = 0x40000000 ∷ 3 ∷ 0x10000000 ∷ 1 ∷ 0x70000000 ∷ 0 ∷ []

-- a trace, a recording, what they come to
pub record Case : Type 0 where
  pub ours : List ℕ
  pub theirs : List ℕ
  pub comes_to : Compared

abbrev pub case : List ℕ → List ℕ → Compared → Case
case t p c = record { ours = t; theirs = p; comes_to = c }

abbrev pub cases : List Case
cases =
    case trace recording (Agree 3)
    -- nothing on either side, and nothing that a probe sees: "agree", and not "part at 0"
    ∷ case [] [] (Agree 0)
    ∷ case (0x20000007 ∷ 0 ∷ 0x90000012 ∷ 8 ∷ []) [] (Agree 0)
    -- another value, another kind, another order
    ∷ case trace (0x40000000 ∷ 3 ∷ 0x10000000 ∷ 0 ∷ 0x70000000 ∷ 0 ∷ []) (Part 1)
    ∷ case trace (0x40000000 ∷ 3 ∷ 0x70000000 ∷ 1 ∷ 0x70000000 ∷ 0 ∷ []) (Part 1)
    ∷ case trace (0x10000000 ∷ 1 ∷ 0x40000000 ∷ 3 ∷ 0x70000000 ∷ 0 ∷ []) (Part 0)
    -- "Where one is longer, they part at the end of the shorter."
    ∷ case trace (0x40000000 ∷ 3 ∷ 0x10000000 ∷ 1 ∷ []) (Part 2)
    ∷ case trace (recording ++ (0x40000000 ∷ 3 ∷ [])) (Part 3)
    ∷ case [] recording (Part 0)
    -- "A lone last word, or a pair begun otherwise, is an entry equal to none."
    ∷ case trace (recording ++ (0x40000000 ∷ [])) (Part 3)
    ∷ case trace (0x40000000 ∷ 3 ∷ 0x1000000B ∷ 1 ∷ 0x70000000 ∷ 0 ∷ []) (Part 1)
    ∷ case (0x20000007 ∷ 0 ∷ []) (0x20000000 ∷ 0 ∷ []) (Part 0)
    -- a lone last word of a trace is no entry
    ∷ case (trace ++ (0x40000000 ∷ [])) recording (Agree 3)
    ∷ []

abbrev pub AllHold : List Case → Type 0
AllHold [] = Unit {0}
AllHold (c ∷ cs) = (compared c.ours c.theirs ≡ c.comes_to) × AllHold cs

pub compared_so : AllHold cases
unfolding trace_entries probe_entries same_entry compared_after compared
compared_so =
    (refl, (refl, (refl, (refl, (refl, (refl, (refl, (refl, (refl, (refl, (refl, (refl, (refl, tt)))))))))))))
