-- What contracts see of the sources and the sinks.
use Rattle.std.specs.Prelude.{ℕ, List, refl}
use Rattle.std.specs.declared.option.Option.{Option}
use Rattle.std.specs.Coded.{Coded, code_by, coded×, coded_ℕ, coded_list, coded_option}

-- the bytes left, the most that a read gives, the numbers of the reads that fail, and how many reads there were and how many failed
pub record SourcePlan : Type 0 where
  pub left : List ℕ
  pub piece : ℕ
  pub failing : List ℕ
  pub calls : ℕ
  pub faults : ℕ

-- the bytes left
pub record SteadyPlan : Type 0 where
  pub left : List ℕ

-- the bytes held, how many there can be, the most that a write takes, and the calls as for a source
pub record SinkPlan : Type 0 where
  pub held : List ℕ
  pub room : ℕ
  pub piece : ℕ
  pub failing : List ℕ
  pub calls : ℕ
  pub faults : ℕ

-- what a reader of std tells of the bytes left, or a writer of the bytes held, and how many calls failed
pub record StdPlan : Type 0 where
  pub bytes : Option (List ℕ)
  pub faults : ℕ

-- a source's plan as pairs of numbers and lists, which a model asks for
abbrev pub source_plan_code : Coded SourcePlan
source_plan_code = code_by
    (List ℕ × (ℕ × (List ℕ × (ℕ × ℕ))))
    (coded× (coded_list coded_ℕ) (coded× coded_ℕ (coded× (coded_list coded_ℕ) (coded× coded_ℕ coded_ℕ))))
    (λ p. (p.left, (p.piece, (p.failing, (p.calls, p.faults)))))
    (λ q. record { left = q.0; piece = q.1.0; failing = q.1.1.0; calls = q.1.1.1.0; faults = q.1.1.1.1 })
    (λ _. refl)

-- a steady source's plan as pairs of numbers and lists, which a model asks for
abbrev pub steady_plan_code : Coded SteadyPlan
steady_plan_code = code_by (List ℕ) (coded_list coded_ℕ) (λ p. p.left) (λ q. record { left = q }) (λ _. refl)

-- a sink's plan as pairs of numbers and lists, which a model asks for
abbrev pub sink_plan_code : Coded SinkPlan
sink_plan_code = code_by
    (List ℕ × (ℕ × (ℕ × (List ℕ × (ℕ × ℕ)))))
    (coded× (coded_list coded_ℕ) (coded× coded_ℕ (coded× coded_ℕ (coded× (coded_list coded_ℕ) (coded× coded_ℕ coded_ℕ)))))
    (λ p. (p.held, (p.room, (p.piece, (p.failing, (p.calls, p.faults))))))
    (λ q. record { held = q.0; room = q.1.0; piece = q.1.1.0; failing = q.1.1.1.0; calls = q.1.1.1.1.0; faults = q.1.1.1.1.1 })
    (λ _. refl)

-- a plan of std as a pair, which a model asks for
abbrev pub std_plan_code : Coded StdPlan
std_plan_code = code_by (Option (List ℕ) × ℕ) (coded× (coded_option (coded_list coded_ℕ)) coded_ℕ) (λ p. (p.bytes, p.faults)) (λ q. record { bytes = q.0; faults = q.1 }) (λ _. refl)
