-- The answers of each thread in the order of its script.
use Rattle.std.proofs.Common.{◌≡◌, ◌<◌, ◌≤◌, ℕ, suc, ◌+◌, List, [], ◌∷◌, ◌++◌, length, take, drop, get_or, map, slice_index_or, slice_set, refl, sym, ap, ◌∙◌, arith, add-one, add-zero, append-nil, append_assoc, length-take}
use Rattle.std.proofs.Math.ListN.{drop_of_length-le}
use Rattle.std.proofs.Math.Seq.{drop-cons}
use Rattle.std.proofs.lemmas.List.{take_more}
use Rattle.run_laws.specs.Audit.{Done, answers_in_order, answers_to, in_script_order}
use Rattle.nook_data.specs.declared.calls.Answer.{Answer}
use Rattle.nook_data.specs.declared.calls.Op.{Op}
use Rattle.nook_data.specs.declared.scenario.ThreadSpec.{ThreadSpec}
use Rattle.journal_audit.specs.PastSections.{answers_in}

-- ---- one script

answer_next : (o : ℕ × Op) (ops : List (ℕ × Op)) (given : List (List (ℕ × Answer))) (a : ℕ × Answer) (more : List (ℕ × Answer))
    → slice_index_or given o.0 [] ≡ a ∷ more → in_script_order (o ∷ ops) given ≡ a ∷ in_script_order ops (slice_set given o.0 more)
unfolding in_script_order
answer_next o ops given a more e = rw (e, in_script_order) refl

answer_none : (o : ℕ × Op) (ops : List (ℕ × Op)) (given : List (List (ℕ × Answer))) → slice_index_or given o.0 [] ≡ []
    → in_script_order (o ∷ ops) given ≡ []
unfolding in_script_order
answer_none o ops given e = rw (e, in_script_order) refl

-- the next operation's part has an answer
pub script_next : (ops : List (ℕ × Op)) (i : ℕ) (o : ℕ × Op) (given : List (List (ℕ × Answer))) (made whole : List (ℕ × Answer))
    (a : ℕ × Answer) (more : List (ℕ × Answer)) → i < length ops → o ≡ get_or ops i o → slice_index_or given o.0 [] ≡ a ∷ more
    → whole ≡ made ++ in_script_order (drop i ops) given
    → whole ≡ (made ++ a ∷ []) ++ in_script_order (drop (i + 1) ops) (slice_set given o.0 more)
script_next ops i o given made whole a more less is e w =
    let whole' : in_script_order (drop i ops) given ≡ a ∷ in_script_order (drop (i + 1) ops) (slice_set given o.0 more) =
    rw (add-one i, drop-cons ops i o less, ← is) (answer_next o (drop (suc i) ops) given a more e) in
    w ∙ (ap (λ l. made ++ l) whole' ∙ sym (append_assoc made (a ∷ []) (in_script_order (drop (i + 1) ops) (slice_set given o.0 more))))

-- the next operation's part has no answer
pub script_over : (ops : List (ℕ × Op)) (i : ℕ) (o : ℕ × Op) (given : List (List (ℕ × Answer))) (made whole : List (ℕ × Answer))
    → i < length ops → o ≡ get_or ops i o → slice_index_or given o.0 [] ≡ [] → whole ≡ made ++ in_script_order (drop i ops) given
    → made ≡ whole
script_over ops i o given made whole less is e w =
    let none : in_script_order (drop i ops) given ≡ [] = rw (drop-cons ops i o less, ← is) (answer_none o (drop (suc i) ops) given e) in
    sym (w ∙ (ap (λ l. made ++ l) none ∙ append-nil made))

-- no operation is left
pub script_done : (ops : List (ℕ × Op)) (i : ℕ) (given : List (List (ℕ × Answer))) (made whole : List (ℕ × Answer))
    → length ops ≤ i → whole ≡ made ++ in_script_order (drop i ops) given → made ≡ whole
unfolding in_script_order
script_done ops i given made whole most w = sym (w ∙ rw (drop_of_length-le ops {i = i} most) (append-nil made))

-- ---- the threads

-- what each section answered a thread
pub given_to : (thread : ℕ) (past : List Done)
    → map (λ (answers : List (List (ℕ × Answer))). slice_index_or answers thread []) (map answers_in past) ≡ map (answers_to thread) past
given_to thread [] = refl
given_to thread (d ∷ past) = ap (λ l. slice_index_or d.answers thread [] ∷ l) (given_to thread past)

order_back : (index : ℕ) (threads : List ThreadSpec) (t : ThreadSpec) (past : List Done)
    → answers_in_order index (threads ++ t ∷ []) past
    ≡ answers_in_order index threads past ++ in_script_order t.ops (map (answers_to (index + length threads)) past) ∷ []
order_back index [] t past = rw (add-zero index) refl
order_back index (x ∷ threads) t past =
    let n : suc index + length threads ≡ index + suc (length threads) = omega arith in
    ap (λ l. in_script_order x.ops (map (answers_to index) past) ∷ l)
    (order_back (suc index) threads t past
    ∙ ap (λ k. answers_in_order (suc index) threads past ++ in_script_order t.ops (map (answers_to k) past) ∷ []) n)

-- one more thread's answers
pub order_more : (threads : List ThreadSpec) (i : ℕ) (d : ThreadSpec) (past : List Done) (given : List (List (ℕ × Answer)))
    (made : List (List (ℕ × Answer))) (own : List (ℕ × Answer)) → i < length threads
    → given ≡ map (λ (answers : List (List (ℕ × Answer))). slice_index_or answers i []) (map answers_in past)
    → own ≡ in_script_order (get_or threads i d).ops given → made ≡ answers_in_order 0 (take i threads) past
    → made ++ own ∷ [] ≡ answers_in_order 0 (take (i + 1) threads) past
order_more threads i d past given made own less g o m =
    let n : 0 + length (take i threads) ≡ i = omega (arith, length-take i threads) in
    rw (take_more threads i d less, order_back 0 (take i threads) (get_or threads i d) past, n, m, o, g, given_to i past) refl
