-- Each keyword is read from its spelling, and from no other word.
use Rattle.std.proofs.Common.{◌≡◌, List, ℕ, Option, Some, None, Bool, true, false, codes, if◌then◌else◌, refl, ap, ◌∙◌}
use Rattle.std.proofs.lemmas.Slice.Eq.{bytes_eq-Decides}
use Rattle.state_space.specs.Keywords.{spelling, statement_word, part_word, operator_word, either_word, keyword_of}
use Rattle.state_space.specs.declared.keyword.Keyword.{Keyword}
use Rattle.state_space.specs.declared.keyword.Keyword.TheVariants as keys

pub keyword_of_spelling : (k : Keyword) → keyword_of (spelling k) ≡ Some k
unfolding statement_word part_word operator_word
keyword_of_spelling keys.Kaos = refl
keyword_of_spelling keys.Var = refl
keyword_of_spelling keys.Domain = refl
keyword_of_spelling keys.Rule = refl
keyword_of_spelling keys.Goal = refl
keyword_of_spelling keys.Obstacle = refl
keyword_of_spelling keys.Refine = refl
keyword_of_spelling keys.Obstruct = refl
keyword_of_spelling keys.Conflict = refl
keyword_of_spelling keys.Agent = refl
keyword_of_spelling keys.Assign = refl
keyword_of_spelling keys.Expect = refl
keyword_of_spelling keys.Operation = refl
keyword_of_spelling keys.Require = refl
keyword_of_spelling keys.Operationalise = refl
keyword_of_spelling keys.Trace = refl
keyword_of_spelling keys.Bool = refl
keyword_of_spelling keys.By = refl
keyword_of_spelling keys.Using = refl
keyword_of_spelling keys.Boundary = refl
keyword_of_spelling keys.Monitors = refl
keyword_of_spelling keys.Controls = refl
keyword_of_spelling keys.To = refl
keyword_of_spelling keys.Of = refl
keyword_of_spelling keys.Dompre = refl
keyword_of_spelling keys.Dompost = refl
keyword_of_spelling keys.On = refl
keyword_of_spelling keys.Pre = refl
keyword_of_spelling keys.Trig = refl
keyword_of_spelling keys.Post = refl
keyword_of_spelling keys.Exact = refl
keyword_of_spelling keys.Loop = refl
keyword_of_spelling keys.Entails = refl
keyword_of_spelling keys.Iff = refl
keyword_of_spelling keys.Implies = refl
keyword_of_spelling keys.Or = refl
keyword_of_spelling keys.And = refl
keyword_of_spelling keys.Until = refl
keyword_of_spelling keys.Unless = refl
keyword_of_spelling keys.Release = refl
keyword_of_spelling keys.Within = refl
keyword_of_spelling keys.Not = refl
keyword_of_spelling keys.Next = refl
keyword_of_spelling keys.Eventually = refl
keyword_of_spelling keys.Always = refl
keyword_of_spelling keys.In = refl
keyword_of_spelling keys.True = refl
keyword_of_spelling keys.False = refl

-- one line of a table: a test for a word of one keyword, and the lines after it
spelled_by : (is_here : Bool) (word : List ℕ) (here k : Keyword) (later : Option Keyword) → (is_here ≡ true → word ≡ spelling here) → (later ≡ Some k → word ≡ spelling k) → (if is_here then Some here else later) ≡ Some k → word ≡ spelling k
spelled_by true word here k later now rest h = let same : here ≡ k = cc in now refl ∙ ap spelling same
spelled_by false word here k later now rest h = rest h

statement_word-spelled : (word : List ℕ) (k : Keyword) → statement_word word ≡ Some k → word ≡ spelling k
unfolding statement_word
statement_word-spelled word k =
    spelled_by _ word keys.Kaos k _ (bytes_eq-Decides word (codes "kaos")).0 (
    spelled_by _ word keys.Var k _ (bytes_eq-Decides word (codes "var")).0 (
    spelled_by _ word keys.Domain k _ (bytes_eq-Decides word (codes "domain")).0 (
    spelled_by _ word keys.Rule k _ (bytes_eq-Decides word (codes "rule")).0 (
    spelled_by _ word keys.Goal k _ (bytes_eq-Decides word (codes "goal")).0 (
    spelled_by _ word keys.Obstacle k _ (bytes_eq-Decides word (codes "obstacle")).0 (
    spelled_by _ word keys.Refine k _ (bytes_eq-Decides word (codes "refine")).0 (
    spelled_by _ word keys.Obstruct k _ (bytes_eq-Decides word (codes "obstruct")).0 (
    spelled_by _ word keys.Conflict k _ (bytes_eq-Decides word (codes "conflict")).0 (
    spelled_by _ word keys.Agent k _ (bytes_eq-Decides word (codes "agent")).0 (
    spelled_by _ word keys.Assign k _ (bytes_eq-Decides word (codes "assign")).0 (
    spelled_by _ word keys.Expect k _ (bytes_eq-Decides word (codes "expect")).0 (
    spelled_by _ word keys.Operation k _ (bytes_eq-Decides word (codes "operation")).0 (
    spelled_by _ word keys.Require k _ (bytes_eq-Decides word (codes "require")).0 (
    spelled_by _ word keys.Operationalise k _ (bytes_eq-Decides word (codes "operationalise")).0 (
    spelled_by _ word keys.Trace k _ (bytes_eq-Decides word (codes "trace")).0 (
    λ h. cc))))))))))))))))

part_word-spelled : (word : List ℕ) (k : Keyword) → part_word word ≡ Some k → word ≡ spelling k
unfolding part_word
part_word-spelled word k =
    spelled_by _ word keys.Bool k _ (bytes_eq-Decides word (codes "bool")).0 (
    spelled_by _ word keys.By k _ (bytes_eq-Decides word (codes "by")).0 (
    spelled_by _ word keys.Using k _ (bytes_eq-Decides word (codes "using")).0 (
    spelled_by _ word keys.Boundary k _ (bytes_eq-Decides word (codes "boundary")).0 (
    spelled_by _ word keys.Monitors k _ (bytes_eq-Decides word (codes "monitors")).0 (
    spelled_by _ word keys.Controls k _ (bytes_eq-Decides word (codes "controls")).0 (
    spelled_by _ word keys.To k _ (bytes_eq-Decides word (codes "to")).0 (
    spelled_by _ word keys.Of k _ (bytes_eq-Decides word (codes "of")).0 (
    spelled_by _ word keys.Dompre k _ (bytes_eq-Decides word (codes "dompre")).0 (
    spelled_by _ word keys.Dompost k _ (bytes_eq-Decides word (codes "dompost")).0 (
    spelled_by _ word keys.On k _ (bytes_eq-Decides word (codes "on")).0 (
    spelled_by _ word keys.Pre k _ (bytes_eq-Decides word (codes "pre")).0 (
    spelled_by _ word keys.Trig k _ (bytes_eq-Decides word (codes "trig")).0 (
    spelled_by _ word keys.Post k _ (bytes_eq-Decides word (codes "post")).0 (
    spelled_by _ word keys.Exact k _ (bytes_eq-Decides word (codes "exact")).0 (
    spelled_by _ word keys.Loop k _ (bytes_eq-Decides word (codes "loop")).0 (
    λ h. cc))))))))))))))))

operator_word-spelled : (word : List ℕ) (k : Keyword) → operator_word word ≡ Some k → word ≡ spelling k
unfolding operator_word
operator_word-spelled word k =
    spelled_by _ word keys.Entails k _ (bytes_eq-Decides word (codes "entails")).0 (
    spelled_by _ word keys.Iff k _ (bytes_eq-Decides word (codes "iff")).0 (
    spelled_by _ word keys.Implies k _ (bytes_eq-Decides word (codes "implies")).0 (
    spelled_by _ word keys.Or k _ (bytes_eq-Decides word (codes "or")).0 (
    spelled_by _ word keys.And k _ (bytes_eq-Decides word (codes "and")).0 (
    spelled_by _ word keys.Until k _ (bytes_eq-Decides word (codes "until")).0 (
    spelled_by _ word keys.Unless k _ (bytes_eq-Decides word (codes "unless")).0 (
    spelled_by _ word keys.Release k _ (bytes_eq-Decides word (codes "release")).0 (
    spelled_by _ word keys.Within k _ (bytes_eq-Decides word (codes "within")).0 (
    spelled_by _ word keys.Not k _ (bytes_eq-Decides word (codes "not")).0 (
    spelled_by _ word keys.Next k _ (bytes_eq-Decides word (codes "next")).0 (
    spelled_by _ word keys.Eventually k _ (bytes_eq-Decides word (codes "eventually")).0 (
    spelled_by _ word keys.Always k _ (bytes_eq-Decides word (codes "always")).0 (
    spelled_by _ word keys.In k _ (bytes_eq-Decides word (codes "in")).0 (
    spelled_by _ word keys.True k _ (bytes_eq-Decides word (codes "true")).0 (
    spelled_by _ word keys.False k _ (bytes_eq-Decides word (codes "false")).0 (
    λ h. cc))))))))))))))))

either-spelled : (word : List ℕ) (k : Keyword) (first later : Option Keyword) → (first ≡ Some k → word ≡ spelling k) → (later ≡ Some k → word ≡ spelling k) → either_word first later ≡ Some k → word ≡ spelling k
either-spelled word k (Some j) later now rest h = now h
either-spelled word k None later now rest h = rest h

pub spelling_of_keyword : (word : List ℕ) (k : Keyword) → keyword_of word ≡ Some k → word ≡ spelling k
spelling_of_keyword word k =
    either-spelled word k (statement_word word) (either_word (part_word word) (operator_word word)) (statement_word-spelled word k) (
    either-spelled word k (part_word word) (operator_word word) (part_word-spelled word k) (operator_word-spelled word k)
    )
