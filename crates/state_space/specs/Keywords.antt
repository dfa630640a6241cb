-- The words that the model language keeps for itself, each with its spelling.
use Rattle.std.specs.Prelude.{ℕ, List, codes, Option, Some, None, bytes_eq, if◌then◌else◌}
use Rattle.state_space.specs.declared.keyword.Keyword.{Keyword}
use Rattle.state_space.specs.declared.keyword.Keyword.TheVariants.{Kaos, Var, Domain, Rule, Goal, Obstacle, Refine, Obstruct, Conflict, Agent, Assign, Expect, Operation, Require, Operationalise, Trace, Bool, By, Using, Boundary, Monitors, Controls, To, Of, Dompre, Dompost, On, Pre, Trig, Post, Exact, Loop, Entails, Iff, Implies, Or, And, Until, Unless, Release, Within, Not, Next, Eventually, Always, In, True, False}

-- how a keyword is spelled
abbrev pub spelling : Keyword → List ℕ
spelling Kaos = codes "kaos"
spelling Var = codes "var"
spelling Domain = codes "domain"
spelling Rule = codes "rule"
spelling Goal = codes "goal"
spelling Obstacle = codes "obstacle"
spelling Refine = codes "refine"
spelling Obstruct = codes "obstruct"
spelling Conflict = codes "conflict"
spelling Agent = codes "agent"
spelling Assign = codes "assign"
spelling Expect = codes "expect"
spelling Operation = codes "operation"
spelling Require = codes "require"
spelling Operationalise = codes "operationalise"
spelling Trace = codes "trace"
spelling Bool = codes "bool"
spelling By = codes "by"
spelling Using = codes "using"
spelling Boundary = codes "boundary"
spelling Monitors = codes "monitors"
spelling Controls = codes "controls"
spelling To = codes "to"
spelling Of = codes "of"
spelling Dompre = codes "dompre"
spelling Dompost = codes "dompost"
spelling On = codes "on"
spelling Pre = codes "pre"
spelling Trig = codes "trig"
spelling Post = codes "post"
spelling Exact = codes "exact"
spelling Loop = codes "loop"
spelling Entails = codes "entails"
spelling Iff = codes "iff"
spelling Implies = codes "implies"
spelling Or = codes "or"
spelling And = codes "and"
spelling Until = codes "until"
spelling Unless = codes "unless"
spelling Release = codes "release"
spelling Within = codes "within"
spelling Not = codes "not"
spelling Next = codes "next"
spelling Eventually = codes "eventually"
spelling Always = codes "always"
spelling In = codes "in"
spelling True = codes "true"
spelling False = codes "false"

-- the place of a keyword among them, by which two are told apart
abbrev pub number : Keyword → ℕ
number Kaos = 0
number Var = 1
number Domain = 2
number Rule = 3
number Goal = 4
number Obstacle = 5
number Refine = 6
number Obstruct = 7
number Conflict = 8
number Agent = 9
number Assign = 10
number Expect = 11
number Operation = 12
number Require = 13
number Operationalise = 14
number Trace = 15
number Bool = 16
number By = 17
number Using = 18
number Boundary = 19
number Monitors = 20
number Controls = 21
number To = 22
number Of = 23
number Dompre = 24
number Dompost = 25
number On = 26
number Pre = 27
number Trig = 28
number Post = 29
number Exact = 30
number Loop = 31
number Entails = 32
number Iff = 33
number Implies = 34
number Or = 35
number And = 36
number Until = 37
number Unless = 38
number Release = 39
number Within = 40
number Not = 41
number Next = 42
number Eventually = 43
number Always = 44
number In = 45
number True = 46
number False = 47

-- a word that begins a statement, or the text
unfoldable pub statement_word : List ℕ → Option Keyword
statement_word word =
    if bytes_eq word (codes "kaos") then Some Kaos else
    if bytes_eq word (codes "var") then Some Var else
    if bytes_eq word (codes "domain") then Some Domain else
    if bytes_eq word (codes "rule") then Some Rule else
    if bytes_eq word (codes "goal") then Some Goal else
    if bytes_eq word (codes "obstacle") then Some Obstacle else
    if bytes_eq word (codes "refine") then Some Refine else
    if bytes_eq word (codes "obstruct") then Some Obstruct else
    if bytes_eq word (codes "conflict") then Some Conflict else
    if bytes_eq word (codes "agent") then Some Agent else
    if bytes_eq word (codes "assign") then Some Assign else
    if bytes_eq word (codes "expect") then Some Expect else
    if bytes_eq word (codes "operation") then Some Operation else
    if bytes_eq word (codes "require") then Some Require else
    if bytes_eq word (codes "operationalise") then Some Operationalise else
    if bytes_eq word (codes "trace") then Some Trace else
    None

-- a word that stands inside a statement, outside its formulas
unfoldable pub part_word : List ℕ → Option Keyword
part_word word =
    if bytes_eq word (codes "bool") then Some Bool else
    if bytes_eq word (codes "by") then Some By else
    if bytes_eq word (codes "using") then Some Using else
    if bytes_eq word (codes "boundary") then Some Boundary else
    if bytes_eq word (codes "monitors") then Some Monitors else
    if bytes_eq word (codes "controls") then Some Controls else
    if bytes_eq word (codes "to") then Some To else
    if bytes_eq word (codes "of") then Some Of else
    if bytes_eq word (codes "dompre") then Some Dompre else
    if bytes_eq word (codes "dompost") then Some Dompost else
    if bytes_eq word (codes "on") then Some On else
    if bytes_eq word (codes "pre") then Some Pre else
    if bytes_eq word (codes "trig") then Some Trig else
    if bytes_eq word (codes "post") then Some Post else
    if bytes_eq word (codes "exact") then Some Exact else
    if bytes_eq word (codes "loop") then Some Loop else
    None

-- a word that stands in formulas and values
unfoldable pub operator_word : List ℕ → Option Keyword
operator_word word =
    if bytes_eq word (codes "entails") then Some Entails else
    if bytes_eq word (codes "iff") then Some Iff else
    if bytes_eq word (codes "implies") then Some Implies else
    if bytes_eq word (codes "or") then Some Or else
    if bytes_eq word (codes "and") then Some And else
    if bytes_eq word (codes "until") then Some Until else
    if bytes_eq word (codes "unless") then Some Unless else
    if bytes_eq word (codes "release") then Some Release else
    if bytes_eq word (codes "within") then Some Within else
    if bytes_eq word (codes "not") then Some Not else
    if bytes_eq word (codes "next") then Some Next else
    if bytes_eq word (codes "eventually") then Some Eventually else
    if bytes_eq word (codes "always") then Some Always else
    if bytes_eq word (codes "in") then Some In else
    if bytes_eq word (codes "true") then Some True else
    if bytes_eq word (codes "false") then Some False else
    None

-- the first of two answers that is there
abbrev pub either_word : Option Keyword → Option Keyword → Option Keyword
either_word (Some k) other = Some k
either_word None other = other

-- the keyword that a word is
abbrev pub keyword_of : List ℕ → Option Keyword
keyword_of word = either_word (statement_word word) (either_word (part_word word) (operator_word word))
