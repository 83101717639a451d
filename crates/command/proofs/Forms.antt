-- Commands that are written by natural numbers alone: which numbers they have, and which command numbers make.
use Rattle.std.proofs.Common.{◌≡◌, ℕ, zero, suc, ◌+◌, ◌*◌, ◌/◌, ◌<◌, length-take, take, drop, cond, eqb, List, [], ◌∷◌, map, length, get_or, Some, None, decimal, sym, refl, ap, ◌∙◌, subst, arith, rules}
use Rattle.std.specs.List.{range_with_len}
use Rattle.std.specs.Simd.{first_chunks}
use Rattle.std.proofs.lemmas.List.{drop-drop, get_or-drop, get_or-take, length-drop}
use Rattle.std.proofs.lemmas.List.FromFn.{fill_by_all}
use Rattle.std.proofs.ByRecursion.{All-get_or}
use Rattle.card.specs.Limits.{Complete}
use Rattle.quantity.specs.declared.load.Concentration.{Concentration}
use Rattle.decimal.specs.Reading.{SomeExactly}
use Rattle.decimal.proofs.Exactly.{none, some}
use Rattle.words.specs.Numbers.{WritesNaturals, spaced}
use Rattle.command.specs.Letters.{letter_o, letter_g, letter_k, letter_c, letter_r, letter_s, letter_w}
use Rattle.command.specs.Parts.{Behind}
use Rattle.command.specs.Written.{NineDigits, Writable, areas_numbers, concentration_numbers, fraction_numbers, letter, soil_numbers, words}
use Rattle.command.specs.declared.command.Command.{Command}
use Rattle.command.specs.declared.command.Command.TheVariants.{Begin, Ground, Equip, Open, Step, Withdraw, Read}
use Rattle.command.specs.declared.command.Fractions.{Fractions}

-- the first elements of a list, by their places
abbrev listed : {X : Type 0} → X → ℕ → List X → List X
listed d n xs = map (λ i. get_or xs i d) (range_with_len 0 n)

listed_all : {X : Type 0} (d : X) (n : ℕ) (xs : List X) → length xs ≡ n → xs ≡ listed d n xs
listed_all d n xs long = fill_by_all (λ i. get_or xs i d) xs n d long (λ k lt. refl)

-- the fractions of a place, of which each has two numbers
abbrev fractions_of : List ℕ → ℕ → Fractions
fractions_of numbers place = record { recession = get_or numbers (2 * place) 0; retention = get_or numbers (2 * place + 1) 0 }

-- the concentrations of a flow, of which each has three numbers
abbrev concentrations_of : List ℕ → ℕ → List Concentration
concentrations_of numbers flow =
    record { 0 = get_or numbers (3 * flow) 0 } ∷ record { 0 = get_or numbers (3 * flow + 1) 0 } ∷ record { 0 = get_or numbers (3 * flow + 2) 0 } ∷ []

abbrev pub fractions_listed : List ℕ → List Fractions
fractions_listed ns = map (fractions_of ns) (range_with_len 0 6)

abbrev pub concentrations_listed : List ℕ → List (List Concentration)
concentrations_listed ns = map (concentrations_of ns) (range_with_len 0 7)

-- The command of a letter whose numbers are natural, from its numbers, and how many these are.
abbrev make : ℕ → List ℕ → Command
make first ns =
    cond (eqb first letter_o) (Begin (get_or ns 0 0) (record { «open» = record { 0 = get_or ns 1 0 }; paved = record { 0 = get_or ns 2 0 }; sewer = record { 0 = get_or ns 3 0 }; unpaved = record { 0 = get_or ns 4 0 } }))
    (cond (eqb first letter_g)
    (Ground (record {
      wilting_point = record { 0 = get_or ns 0 0 };
      field_capacity = record { 0 = get_or ns 1 0 };
      saturation = record { 0 = get_or ns 2 0 };
      infiltration_limit = record { 0 = get_or ns 3 0 };
      percolation_limit = record { 0 = get_or ns 4 0 };
      depression_limit = record { 0 = get_or ns 5 0 };
      crop_factor = get_or ns 6 0;
      slow_share = get_or ns 7 0;
    }))
    (cond (eqb first letter_k) (Equip (fractions_listed ns))
    (cond (eqb first letter_c) (Open (record { by_flow = concentrations_listed ns })) (cond (eqb first letter_w) (Withdraw (get_or ns 0 0)) Read))))

abbrev count : ℕ → ℕ
count first =
    cond (eqb first letter_o) 5 (cond (eqb first letter_g) 8 (cond (eqb first letter_k) 12 (cond (eqb first letter_c) 21 (cond (eqb first letter_w) 1 0))))

-- The command is written by natural numbers, and is the one that these make.
record Taken (command : Command) : Type 0 where
  numbers : List ℕ
  long : length numbers ≡ count (letter command)
  below : NineDigits numbers
  written : words command ≡ map decimal numbers
  is : command ≡ make (letter command) numbers

-- six fractions by their places, and seven flows of three concentrations
abbrev six : List Fractions → List Fractions
six fs = listed (record { recession = 0; retention = 0 }) 6 fs

abbrev seven : List (List Concentration) → List (List Concentration)
seven flows = map (λ flow. listed (record { 0 = 0 }) 3 (get_or flows flow [])) (range_with_len 0 7)

taken_fractions : (fs : List Fractions) → NineDigits (fraction_numbers (six fs)) → Taken (Equip (six fs))
taken_fractions fs below = record { numbers = fraction_numbers (six fs); long = refl; below = below; written = refl; is = refl }

taken_concentrations : (flows : List (List Concentration)) → NineDigits (concentration_numbers (seven flows)) → Taken (Open (record { by_flow = seven flows }))
taken_concentrations flows below = record { numbers = concentration_numbers (seven flows); long = refl; below = below; written = refl; is = refl }

flows_listed : (flows : List (List Concentration)) → Complete flows → flows ≡ seven flows
flows_listed flows complete = fill_by_all _ flows 7 [] complete.flows (λ flow lt. listed_all (record { 0 = 0 }) 3 (get_or flows flow []) (complete.nutrients flow lt))

taken : (command : Command) → Writable command → (letter command ≡ letter_s → ⊥) → Taken command
taken (Begin number areas) below other = record { numbers = number ∷ areas_numbers areas; long = refl; below = below; written = refl; is = refl }
taken (Ground soil) below other = record { numbers = soil_numbers soil; long = refl; below = below; written = refl; is = refl }
taken (Equip fractions) (below, long) other =
    let e = listed_all (record { recession = 0; retention = 0 }) 6 fractions long in
    subst (λ fs. Taken (Equip fs)) (sym e) (taken_fractions fractions (subst (λ fs. NineDigits (fraction_numbers fs)) e below))
taken (Open concentrations) (below, complete) other =
    let e = flows_listed concentrations.by_flow complete in
    subst (λ flows. Taken (Open (record { by_flow = flows }))) (sym e)
    (taken_concentrations concentrations.by_flow (subst (λ flows. NineDigits (concentration_numbers flows)) e below))
taken (Step number forcing) below other = absurd (other refl)
taken (Withdraw number) below other = record { numbers = number ∷ []; long = refl; below = below; written = refl; is = refl }
taken Read below other = record { numbers = []; long = refl; below = tt; written = refl; is = refl }

-- the numbers that the bytes write, by their places
pub listed_writes : (n : ℕ) {bytes : List ℕ} (ns : List ℕ) → WritesNaturals n bytes ns → NineDigits (listed 0 n ns) × (bytes ≡ spaced (map decimal (listed 0 n ns)))
listed_writes n ns (long, below, written) =
    let e = listed_all 0 n ns long in
    (subst NineDigits e below, written ∙ ap (λ l. spaced (map decimal l)) e)

module _ (first : ℕ) (natural : first ≡ letter_s → ⊥) {bytes : List ℕ} where
  behind_writes : (command : Command) → Behind first bytes command → (ns : List ℕ) × WritesNaturals (count first) bytes ns × (command ≡ make first ns)
  behind_writes command (is, writable, written) =
      let t = taken command writable (λ s. natural (sym is ∙ s)) in (
        t.numbers,
        (t.long ∙ ap count is, t.below, written ∙ ap spaced t.written),
        t.is ∙ ap (λ l. make l t.numbers) is,
      )

  pub none_behind : SomeExactly None (WritesNaturals (count first) bytes) → SomeExactly None (Behind first bytes)
  none_behind unread =
      none (λ command behind.
      let (ns, writes, _) = behind_writes command behind in
      let e = (unread ns).1 writes in
      let z : ◌≡◌ {A = ℕ} 0 1 = cc in omega arith)

  pub some_behind : {ns : List ℕ} {command : Command} → SomeExactly (Some ns) (WritesNaturals (count first) bytes) → command ≡ make first ns → Behind first bytes (make first ns) → SomeExactly (Some command) (Behind first bytes)
  some_behind {ns} {command} exactly made behind =
      some command
      (rw made behind)
      (λ other other_behind.
      let r = behind_writes other other_behind in
      let same : ns ≡ r.0 = cc ((exactly r.0).1 r.1) in
      made ∙ ap (make first) same ∙ sym r.2)

-- behind the letter r there is nothing
pub read_behind : {bytes : List ℕ} → bytes ≡ [] → SomeExactly (Some Read) (Behind letter_r bytes)
read_behind empty = some Read (refl, tt, empty) (λ other behind. sym (behind_writes letter_r (λ e. omega arith) other behind).2)

-- the chunks of a list, by their places
chunk : {X : Type 0} (n count : ℕ) (xs : List X) (k : ℕ) → k < count → get_or (first_chunks n count xs) k [] ≡ take n (drop (n * k) xs)
chunk n zero xs k lt = absurd (omega arith)
chunk n (suc count) xs zero lt = let e : n * 0 ≡ 0 = omega arith in rw e refl
chunk n (suc count) xs (suc k) lt =
    let e : n + n * k ≡ n * suc k = grind arith in
    chunk n count (drop n xs) k (omega arith) ∙ ap (take n) (drop-drop (n * k) n xs ∙ ap (λ m. drop m xs) e)

in_chunk : {X : Type 0} (n count : ℕ) (xs : List X) (k i j : ℕ) (d : X) → k < count → i < n → n * k + i ≡ j → get_or (get_or (first_chunks n count xs) k []) i d ≡ get_or xs j d
in_chunk n count xs k i j d k_lt i_lt is = rw (chunk n count xs k k_lt, get_or-take n (drop (n * k) xs) i d i_lt, get_or-drop (n * k) xs i d, is) refl

-- fractions made of the pairs of numbers are the numbers' fractions
pub of_pairs : (ns : List ℕ) (pairs : List (List ℕ)) (fs : List Fractions) (d : Fractions) → length ns ≡ 12 → pairs ≡ first_chunks 2 (length ns / 2) ns → length fs ≡ 6
    → ((k : ℕ) → k < 6 → get_or fs k d ≡ record { recession = get_or (get_or pairs k []) 0 0; retention = get_or (get_or pairs k []) 1 0 })
    → fs ≡ fractions_listed ns
of_pairs ns pairs fs d long chunks fs_long made =
    let six : pairs ≡ first_chunks 2 6 ns = rw long at chunks in
    fill_by_all (fractions_of ns) fs 6 d fs_long
    (λ k lt.
    made k lt
    ∙ rw (six, in_chunk 2 6 ns k 0 (2 * k) 0 lt (omega arith) (omega arith), in_chunk 2 6 ns k 1 (2 * k + 1) 0 lt (omega arith) (omega arith)) refl)

-- concentrations in threes, of numbers, are the numbers' concentrations
pub of_threes : (ns : List ℕ) (cs : List Concentration) (threes : List (List Concentration)) (d : Concentration) → length cs ≡ 21 → ((i : ℕ) → i < 21 → get_or cs i d ≡ record { 0 = get_or ns i 0 })
    → threes ≡ first_chunks 3 (length cs / 3) cs → threes ≡ concentrations_listed ns
of_threes ns cs threes d long of_numbers chunks =
    let seven : threes ≡ first_chunks 3 7 cs = rw long at chunks in
    fill_by_all (concentrations_of ns) threes 7 [] (ap length seven)
    (λ k lt.
    let three : (i j : ℕ) → i < 3 → 3 * k + i ≡ j → get_or (take 3 (drop (3 * k) cs)) i d ≡ record { 0 = get_or ns j 0 } =
    λ i j i_lt is. rw (get_or-take 3 (drop (3 * k) cs) i d i_lt, get_or-drop (3 * k) cs i d, is) (of_numbers j (omega arith)) in
    ap (λ l. get_or l k []) seven ∙ chunk 3 7 cs k lt
    ∙ fill_by_all (λ i. get_or (concentrations_of ns k) i d) (take 3 (drop (3 * k) cs)) 3 d (simp (length-take, length-drop) (omega arith))
    (elim [
      | zero ↦ λ lt. three 0 (3 * k) lt (omega arith)
      | suc zero ↦ λ lt. three 1 (3 * k + 1) lt (omega arith)
      | suc (suc zero) ↦ λ lt. three 2 (3 * k + 2) lt (omega arith)
      | suc (suc (suc i)) ↦ λ lt. absurd (omega arith)
    ]))

pub concentrations_complete : (ns : List ℕ) → Complete (concentrations_listed ns)
concentrations_complete ns =
    record {
      flows = refl;
      nutrients = λ flow lt. All-get_or (λ of_flow. length of_flow ≡ 3) (concentrations_listed ns) flow [] lt (search rules);
    }
