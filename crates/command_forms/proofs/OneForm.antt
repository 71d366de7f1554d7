-- Arguments name at most one subcommand.
use Rattle.std.proofs.Common.{◌≡◌, ℕ, Option, Some, None, List, [], ◌∷◌, if◌then◌else◌, bytes_eq, codes, decimal, sym, ap, ◌∙◌, arith}
use Rattle.std.proofs.lemmas.Fmt.{decimal_is_IsNumeral}
use Rattle.std.specs.Str.Parse.{digits_value}
use Rattle.command_forms.specs.Forms.{IsForm}
use Rattle.command_forms.specs.declared.words.Form.{Form}
use Rattle.command_forms.specs.declared.words.Form.TheVariants as form

-- the subcommand that the arguments name, for any numbers among them

abbrev one_word : List ℕ → Option Form
one_word word =
    if bytes_eq word (codes "run") then Some form.Run else
    if bytes_eq word (codes "asm") then Some form.Asm else
    if bytes_eq word (codes "dis") then Some form.Dis else
    if bytes_eq word (codes "audit") then Some form.Audit else
    if bytes_eq word (codes "campaign") then Some form.Campaign else
    if bytes_eq word (codes "mirror") then Some form.Mirror else
    if bytes_eq word (codes "list") then Some form.List else
    if bytes_eq word (codes "guard") then Some form.Guard else
    if bytes_eq word (codes "explore") then Some form.Explore else
    if bytes_eq word (codes "--help") then Some form.Help else
    if bytes_eq word (codes "--version") then Some form.Version else None

abbrev two_words : List ℕ → List ℕ → Option Form
two_words word second =
    if bytes_eq word (codes "run") then Some form.RunThreads else
    if bytes_eq word (codes "guard") then Some form.GuardScenario else Some (form.Gen (digits_value 10 second))

abbrev three_words : List ℕ → List ℕ → List ℕ → Option Form
three_words word second third =
    if bytes_eq word (codes "gen") then Some (form.GenScenario (digits_value 10 second)) else
    Some (form.Trace (digits_value 10 second) (digits_value 10 third))

abbrev named : List (List ℕ) → Option Form
named [] = None
named (word ∷ []) = one_word word
named (word ∷ second ∷ []) = two_words word second
named (word ∷ second ∷ third ∷ []) = three_words word second third
named (word ∷ second ∷ third ∷ fourth ∷ words) = None

-- the arguments of a subcommand name it
is_named : (words : List (List ℕ)) (asked : Form) → IsForm words asked → named words ≡ Some asked
is_named words form.Run is = ap named is
is_named words form.RunThreads is = ap named is
is_named words form.Asm is = ap named is
is_named words form.Dis is = ap named is
is_named words (form.Gen n) is =
    ap named is.0 ∙ ap (λ m. Some (form.Gen m)) (decimal_is_IsNumeral n (omega (arith, is.2))).1
is_named words (form.GenScenario n) is =
    ap named is.0 ∙ ap (λ m. Some (form.GenScenario m)) (decimal_is_IsNumeral n (omega (arith, is.2))).1
is_named words form.Audit is = ap named is
is_named words form.Campaign is = ap named is
is_named words form.Mirror is = ap named is
is_named words form.List is = ap named is
is_named words (form.Trace part burst) is =
    ap named is.0
    ∙ (ap (λ m. Some (form.Trace m (digits_value 10 (decimal burst)))) (decimal_is_IsNumeral part (omega (arith, is.1))).1
    ∙ ap (λ m. Some (form.Trace part m)) (decimal_is_IsNumeral burst (omega (arith, is.3))).1)
is_named words form.Guard is = ap named is
is_named words form.GuardScenario is = ap named is
is_named words form.Explore is = ap named is
is_named words form.Help is = ap named is
is_named words form.Version is = ap named is

some_one : (one other : Form) → Some one ≡ Some other → one ≡ other
some_one one other e = cc

pub one_form : (words : List (List ℕ)) (one other : Form) → IsForm words one → IsForm words other → one ≡ other
one_form words one other a b = some_one one other (sym (is_named words one a) ∙ is_named words other b)
