-- How a reader goes on, or stops: what it reads depends on no token behind the first one that it leaves, and where it fails behind some
-- tokens, these can be completed.
use Rattle.std.proofs.Common.{◌≡◌, ℕ, zero, suc, ◌<◌, ◌≤◌, Bool, true, List, [], ◌∷◌, ◌++◌, length, Option, Some, None, Ok, Err, refl, sym, ap, subst, ◌∙◌, append_assoc, length-append, arith, inl, inr}
use Rattle.std.specs.Prelude.{◌⊎◌}
use Rattle.model_tokens.specs.Tokens.{TokenForm, keyword, mark, name, number, further, stray, bad_byte}
use Rattle.model_text.specs.Writable.{AreWritable}
use Rattle.model_text.specs.Reading.{Reading, and_then}
use Rattle.model_text.specs.FormulaReading.{read_as}
use Rattle.model_text.specs.Readers.{Reader, after, counted, giving, nowhere}
use Rattle.model_text.proofs.FormulaTokens.{ok_parts, and_then_ok, read_as_ok}
use Rattle.model_text.proofs.ReadTokens.{AllOf, all_back, all_joined}

-- ---- what is claimed of a reader

-- which tokens do not go on with what was read
abbrev pub Ends : Type 0
Ends = List TokenForm → Bool

abbrev pub anything : Ends
anything ts = true

-- the first tokens are one
abbrev pub SameHead : List TokenForm → List TokenForm → Type 0
SameHead [] us = ⊥
SameHead (t ∷ ts) [] = ⊥
SameHead (t ∷ ts) (u ∷ us) = t ≡ u

-- what may stand behind what was read
abbrev pub Follows : Ends → List TokenForm → List TokenForm → Type 0
Follows ends rest us = SameHead rest us ⊎ (ends us ≡ true)

-- a token that some text has
abbrev pub IsPlain : TokenForm → Type 0
IsPlain (keyword k) = Unit {0}
IsPlain (mark m) = Unit {0}
IsPlain (name x) = Unit {0}
IsPlain (number s d) = Unit {0}
IsPlain (further f) = Unit {0}
IsPlain stray = ⊥
IsPlain bad_byte = ⊥

-- a token that texts of the version have
abbrev pub IsIn : (second : Bool) → TokenForm → Type 0
IsIn second (keyword k) = Unit {0}
IsIn second (mark m) = Unit {0}
IsIn second (name x) = Unit {0}
IsIn second (number s d) = Unit {0}
IsIn second (further f) = second ≡ true
IsIn second stray = Unit {0}
IsIn second bad_byte = Unit {0}

-- fewer tokens than that, all of the version
pub record Few (second : Bool) (n : ℕ) (ts : List TokenForm) : Type 0 where
  pub fewer : length ts < n
  pub all_in : AllOf (IsIn second) ts

-- tokens of which some more make a whole
pub record Completes {A : Type 0} (second : Bool) (ends : Ends) (read : Reader A) (front : List TokenForm) : Type 0 where
  pub more : List TokenForm
  pub value : A
  pub writable : AreWritable second more
  pub whole : (us : List TokenForm) → ends us ≡ true → read (front ++ (more ++ us)) ≡ Ok (value, us)

abbrev pub GoesOn : {A : Type 0} → Bool → Ends → Reader A → List TokenForm → Type 0
GoesOn second ends read [] = Unit {0}
GoesOn second ends read (t ∷ ts) = Completes second ends read (t ∷ ts)

-- what was read is read whatever follows; it takes a token where the shortest spelling does
pub record ReadSo {A : Type 0} (ends : Ends) (start : List TokenForm) (read : Reader A) (ts : List TokenForm) (x : A) (rest : List TokenForm) : Type 0 where
  pub front : List TokenForm
  pub is : ts ≡ front ++ rest
  pub plain : AllOf IsPlain front
  pub takes : front ≡ [] → start ≡ []
  pub again : (us : List TokenForm) → Follows ends rest us → read (front ++ us) ≡ Ok (x, us)

-- a fault stands there whatever stands behind it, and what stands before it can be completed
pub record FailsSo {A : Type 0} (second : Bool) (ends : Ends) (read : Reader A) (ts rest : List TokenForm) : Type 0 where
  pub front : List TokenForm
  pub is : ts ≡ front ++ rest
  pub plain : AllOf IsPlain front
  pub again : (us : List TokenForm) → SameHead rest us → read (front ++ us) ≡ Err us
  pub goes_on : GoesOn second ends read front

-- for lists of fewer tokens than that, of the version
pub record Judges {A : Type 0} (second : Bool) (n : ℕ) (ends : Ends) (start : List TokenForm) (read : Reader A) : Type 0 where
  pub reads : (ts : List TokenForm) (x : A) (rest : List TokenForm) → Few second n ts → read ts ≡ Ok (x, rest) → ReadSo ends start read ts x rest
  pub fails : (ts rest : List TokenForm) → Few second n ts → read ts ≡ Err rest → FailsSo second ends read ts rest

-- with a shortest spelling
pub record Law {A : Type 0} (second : Bool) (n : ℕ) (ends : Ends) (start : List TokenForm) (read : Reader A) : Type 0 where
  pub value : A
  pub writable : AreWritable second start
  pub begins : (us : List TokenForm) → ends us ≡ true → read (start ++ us) ≡ Ok (value, us)
  pub judged : Judges second n ends start read

-- ---- lists

pub writable_joined : (v : Bool) (ts us : List TokenForm) → AreWritable v ts → AreWritable v us → AreWritable v (ts ++ us)
writable_joined v [] us a b = b
writable_joined v (t ∷ ts) us a b = (a.0, writable_joined v ts us a.1 b)

front_empty : (ts us : List TokenForm) → ts ++ us ≡ [] → ts ≡ []
front_empty [] us e = refl
front_empty (t ∷ ts) us e = absurd cc

back_empty : (ts us : List TokenForm) → ts ++ us ≡ [] → us ≡ []
back_empty [] us e = e
back_empty (t ∷ ts) us e = absurd cc

both_empty : (ts us : List TokenForm) → ts ≡ [] → us ≡ [] → ts ++ us ≡ []
both_empty [] us a b = b
both_empty (t ∷ ts) us a b = absurd cc

-- ---- heads

same_head : (more front us : List TokenForm) (t : TokenForm) (rest : List TokenForm) → more ≡ (t ∷ front) ++ rest → SameHead more ((t ∷ front) ++ us)
same_head [] front us t rest is = absurd cc
same_head (v ∷ more) front us t rest is = cc

same_on : (more rest front us : List TokenForm) → more ≡ front ++ rest → SameHead rest us → SameHead more (front ++ us)
same_on more rest [] us is h = subst (λ (v : List TokenForm). SameHead v us) (sym is) h
same_on more rest (t ∷ front) us is h = same_head more front us t rest is

follows_on : (e f : Ends) (start more rest front us : List TokenForm) → more ≡ front ++ rest → (front ≡ [] → start ≡ []) → ((vs : List TokenForm) → f vs ≡ true → e (start ++ vs) ≡ true)
    → Follows f rest us → Follows e more (front ++ us)
follows_on e f start more rest [] us is takes fits (inl h) = inl (subst (λ (v : List TokenForm). SameHead v us) (sym is) h)
follows_on e f start more rest [] us is takes fits (inr h) = inr (subst (λ (v : List TokenForm). e (v ++ us) ≡ true) (takes refl) (fits us h))
follows_on e f start more rest (t ∷ front) us is takes fits h = inl (same_head more front us t rest is)

goes_on_so : {v : Bool} {A : Type 0} {ends : Ends} {read : Reader A} (front : List TokenForm) → Completes v ends read front → GoesOn v ends read front
goes_on_so [] c = tt
goes_on_so (t ∷ front) c = c

-- ---- a reader that reads as another

law_judges : {v : Bool} {A : Type 0} {n : ℕ} {e : Ends} {s : List TokenForm} {read same : Reader A} → ((ts : List TokenForm) → read ts ≡ same ts) → Judges v n e s same → Judges v n e s read
law_judges {v} {A} {n} {e} {s} {read} {same} is j = record {
  reads = λ ts x rest le r.
      let g = j.reads ts x rest le (sym (is ts) ∙ r) in
      record { front = g.front; is = g.is; plain = g.plain; takes = g.takes; again = λ us h. is (g.front ++ us) ∙ g.again us h };
  fails = λ ts rest le r.
      let g = j.fails ts rest le (sym (is ts) ∙ r) in
      record { front = g.front; is = g.is; plain = g.plain; again = λ us h. is (g.front ++ us) ∙ g.again us h; goes_on = by_front g.front g.goes_on };
}
  where
    by_front : (front : List TokenForm) → GoesOn v e same front → GoesOn v e read front
    by_front [] c = tt
    by_front (t ∷ front) c = record { more = c.more; value = c.value; writable = c.writable; whole = λ us h. is ((t ∷ front) ++ (c.more ++ us)) ∙ c.whole us h }

pub law_as : {v : Bool} {A : Type 0} {n : ℕ} {e : Ends} {s : List TokenForm} {read same : Reader A} → ((ts : List TokenForm) → read ts ≡ same ts) → Law v n e s same → Law v n e s read
law_as {s = s} is law = record { value = law.value; writable = law.writable; begins = λ us h. is (s ++ us) ∙ law.begins us h; judged = law_judges is law.judged }

-- before fewer tokens that end it
pub law_before : {v : Bool} {A : Type 0} {n : ℕ} {e f : Ends} {s : List TokenForm} {read : Reader A} → ((us : List TokenForm) → e us ≡ true → f us ≡ true) → Law v n f s read → Law v n e s read
law_before {v} {A} {n} {e} {f} {s} {read} fits law = record {
  value = law.value;
  writable = law.writable;
  begins = λ us h. law.begins us (fits us h);
  judged = record {
    reads = λ ts x rest le r.
        let g = law.judged.reads ts x rest le r in
        record { front = g.front; is = g.is; plain = g.plain; takes = g.takes; again = λ us h. g.again us (follows rest us h) };
    fails = λ ts rest le r.
        let g = law.judged.fails ts rest le r in
        record { front = g.front; is = g.is; plain = g.plain; again = g.again; goes_on = by_front g.front g.goes_on };
  };
}
  where
    follows : (rest us : List TokenForm) → Follows e rest us → Follows f rest us
    follows rest us (inl h) = inl h
    follows rest us (inr h) = inr (fits us h)

    by_front : (front : List TokenForm) → GoesOn v f read front → GoesOn v e read front
    by_front [] c = tt
    by_front (t ∷ front) c = record { more = c.more; value = c.value; writable = c.writable; whole = λ us h. c.whole us (fits us h) }

more_few : {v : Bool} {m n : ℕ} {ts : List TokenForm} → m ≤ n → Few v m ts → Few v n ts
more_few le few = let less = few.fewer in record { fewer = omega arith; all_in = few.all_in }

-- for fewer tokens
pub law_below : {v : Bool} {A : Type 0} {m n : ℕ} {e : Ends} {s : List TokenForm} {read : Reader A} → m ≤ n → Law v n e s read → Law v m e s read
law_below le law = record {
  value = law.value;
  writable = law.writable;
  begins = law.begins;
  judged = record { reads = λ ts x rest few r. law.judged.reads ts x rest (more_few le few) r; fails = λ ts rest few r. law.judged.fails ts rest (more_few le few) r };
}

-- no list is shorter than that
pub law_of_none : {v : Bool} {A : Type 0} {e : Ends} {s : List TokenForm} {read : Reader A} (x : A) → AreWritable v s → ((us : List TokenForm) → e us ≡ true → read (s ++ us) ≡ Ok (x, us)) → Law v zero e s read
law_of_none x w b = record {
  value = x;
  writable = w;
  begins = b;
  judged = record { reads = λ ts y rest few r. let less = few.fewer in absurd (omega arith); fails = λ ts rest few r. let less = few.fewer in absurd (omega arith) };
}

-- ---- nothing is read

pub giving_law : {v : Bool} {A : Type 0} {n : ℕ} {e : Ends} (x : A) → Law v n e [] (giving x)
giving_law x = record {
  value = x;
  writable = tt;
  begins = λ us h. refl;
  judged = record {
    reads = λ ts y rest lt r.
        let p = ok_parts x y ts rest r in
        record { front = []; is = p.1; plain = tt; takes = λ h. refl; again = λ us h. ap (λ (z : _). Ok (z, us)) p.0 };
    fails = λ ts rest lt r. absurd cc;
  };
}

err_is : {A : Type 0} (ts rest : List TokenForm) → ◌≡◌ {A = Reading A} (Err ts) (Err rest) → ts ≡ rest
err_is ts rest e = cc

pub nowhere_judges : {v : Bool} {A : Type 0} {n : ℕ} {e : Ends} {s : List TokenForm} → Judges {A = A} v n e s nowhere
nowhere_judges {v} {A} = record {
  reads = λ ts y rest lt r. absurd cc;
  fails = λ ts rest lt r. record { front = []; is = err_is {A = A} ts rest r; plain = tt; again = λ us h. refl; goes_on = tt };
}

-- ---- a part, and the next one behind it

pub and_then_err : {A B : Type 0} (o : Reading A) (k : A → List TokenForm → Reading B) (rest : List TokenForm)
    → ◌≡◌ {A = Reading B} (and_then o k) (Err rest) → (o ≡ Err rest) ⊎ ((x : A) × (more : List TokenForm) × (o ≡ Ok (x, more)) × (k x more ≡ Err rest))
and_then_err {A} {B} (Err d) k rest e = inl (ap (λ (us : List TokenForm). err_with us) (err_is {A = B} d rest e))
  where
    err_with : List TokenForm → Reading A
    err_with us = Err us
and_then_err (Ok x) k rest e = inr (x.0, x.1, refl, e)

abbrev pub Leaves : {A : Type 0} → Bool → (m n : ℕ) → Reader A → Type 0
Leaves {A} v m n read = (ts : List TokenForm) (x : A) (rest : List TokenForm) → Few v n ts → read ts ≡ Ok (x, rest) → Few v m rest

pub in_rest : (v : Bool) (ts front rest : List TokenForm) → ts ≡ front ++ rest → AllOf (IsIn v) ts → AllOf (IsIn v) rest
in_rest v ts front rest is all = all_back (IsIn v) front rest (subst (AllOf (IsIn v)) is all)

both_at : {v : Bool} {A B : Type 0} {m n : ℕ} {e f : Ends} {s t : List TokenForm} {read : Reader A} {next : A → Reader B} → Leaves v m n read → Law v n e s read → ((x : A) → Law v m f t (next x))
    → ((us : List TokenForm) → f us ≡ true → e (t ++ us) ≡ true) → Law v n f (s ++ t) (λ ts. and_then (read ts) next)
both_at {v} {A} {B} {m} {n} {e} {f} {s} {t} {read} {next} leaves first second fits = record {
  value = (second first.value).value;
  writable = writable_joined v s t first.writable (second first.value).writable;
  begins = λ us h. ap (λ (vs : List TokenForm). and_then (read vs) next) (append_assoc s t us) ∙ rw (first.begins (t ++ us) (fits us h)) ((second first.value).begins us h);
  judged = record { reads = reads; fails = fails };
}
  where
    reads : (ts : List TokenForm) (y : B) (rest : List TokenForm) → Few v n ts → and_then (read ts) next ≡ Ok (y, rest) → ReadSo f (s ++ t) (λ us. and_then (read us) next) ts y rest
    reads ts y rest le r =
        let x = and_then_ok (read ts) next y rest r in
        let a = first.judged.reads ts x.0 x.1 le x.2 in
        let b = (second x.0).judged.reads x.1 y rest (leaves ts x.0 x.1 le x.2) x.3 in
        record {
          front = a.front ++ b.front;
          is = a.is ∙ ap (λ (vs : List TokenForm). a.front ++ vs) b.is ∙ sym (append_assoc a.front b.front rest);
          plain = all_joined IsPlain a.front b.front a.plain b.plain;
          takes = λ none. both_empty s t (a.takes (front_empty a.front b.front none)) (b.takes (back_empty a.front b.front none));
          again = λ us h.
              ap (λ (vs : List TokenForm). and_then (read vs) next) (append_assoc a.front b.front us)
              ∙ rw (a.again (b.front ++ us) (follows_on e f t x.1 rest b.front us b.is b.takes fits h)) (b.again us h);
        }

    -- what the first part left can be completed
    completed : (front more : List TokenForm) (x : A) → ((us : List TokenForm) → Follows e more us → read (front ++ us) ≡ Ok (x, us)) → (behind rest : List TokenForm) → more ≡ behind ++ rest
        → GoesOn v f (next x) behind → Completes v f (λ us. and_then (read us) next) (front ++ behind)
    completed front more x again [] rest is c = record {
      more = t;
      value = (second x).value;
      writable = (second x).writable;
      whole = λ us h. ap (λ (vs : List TokenForm). and_then (read vs) next) (append_assoc front [] (t ++ us)) ∙ rw (again (t ++ us) (inr (fits us h))) ((second x).begins us h);
    }
    completed front more x again (v ∷ behind) rest is c = record {
      more = c.more;
      value = c.value;
      writable = c.writable;
      whole = λ us h.
          ap (λ (vs : List TokenForm). and_then (read vs) next) (append_assoc front (v ∷ behind) (c.more ++ us))
          ∙ rw (again ((v ∷ behind) ++ (c.more ++ us)) (inl (same_head more behind (c.more ++ us) v rest is))) (c.whole us h);
    }

    begun : (front : List TokenForm) → GoesOn v e read front → GoesOn v f (λ us. and_then (read us) next) front
    begun [] c = tt
    begun (w ∷ front) c = record {
      more = c.more ++ t;
      value = (second c.value).value;
      writable = writable_joined v c.more t c.writable (second c.value).writable;
      whole = λ us h. ap (λ (vs : List TokenForm). and_then (read ((w ∷ front) ++ vs)) next) (append_assoc c.more t us) ∙ rw (c.whole (t ++ us) (fits us h)) ((second c.value).begins us h);
    }

    fails : (ts rest : List TokenForm) → Few v n ts → and_then (read ts) next ≡ Err rest → FailsSo v f (λ us. and_then (read us) next) ts rest
    fails ts rest le r = elim (and_then_err (read ts) next rest r) [
      | inl h ↦
          let a = first.judged.fails ts rest le h in
          record { front = a.front; is = a.is; plain = a.plain; again = λ us same. rw (a.again us same) refl; goes_on = begun a.front a.goes_on }
      | inr x ↦
          let a = first.judged.reads ts x.0 x.1 le x.2 in
          let b = (second x.0).judged.fails x.1 rest (leaves ts x.0 x.1 le x.2) x.3 in
          record {
            front = a.front ++ b.front;
            is = a.is ∙ ap (λ (vs : List TokenForm). a.front ++ vs) b.is ∙ sym (append_assoc a.front b.front rest);
            plain = all_joined IsPlain a.front b.front a.plain b.plain;
            again = λ us same.
                ap (λ (vs : List TokenForm). and_then (read vs) next) (append_assoc a.front b.front us)
                ∙ rw (a.again (b.front ++ us) (inl (same_on x.1 rest b.front us b.is same))) (b.again us same);
            goes_on = goes_on_so (a.front ++ b.front) (completed a.front x.1 x.0 a.again b.front rest b.is b.goes_on);
          }
    ]

after_at : {v : Bool} {A B : Type 0} {m n : ℕ} {e f : Ends} {s t : List TokenForm} {read : Reader A} {next : A → Reader B} → Leaves v m n read → Law v n e s read → ((x : A) → Law v m f t (next x))
    → ((us : List TokenForm) → f us ≡ true → e (t ++ us) ≡ true) → Law v n f (s ++ t) (after read next)
unfolding after
after_at {read = read} {next = next} leaves first second fits = law_as {same = λ ts. and_then (read ts) next} (λ ts. refl) (both_at leaves first second fits)

pub after_law : {v : Bool} {A B : Type 0} {n : ℕ} {e f : Ends} {s t : List TokenForm} {read : Reader A} {next : A → Reader B} → Law v n e s read → ((x : A) → Law v n f t (next x))
    → ((us : List TokenForm) → f us ≡ true → e (t ++ us) ≡ true) → Law v n f (s ++ t) (after read next)
after_law {v} {A} {n = n} {read = read} first second fits = after_at no_longer first second fits
  where
    no_longer : Leaves v n n read
    no_longer ts x rest le r =
        let a = first.judged.reads ts x rest le r in
        let less = le.fewer in
        record { fewer = omega (arith, ap length a.is, length-append a.front rest); all_in = in_rest v ts a.front rest a.is le.all_in }

-- nothing can go on with the first part
pub then_law : {v : Bool} {A B : Type 0} {n : ℕ} {f : Ends} {s t : List TokenForm} {read : Reader A} {next : A → Reader B} → Law v n anything s read → ((x : A) → Law v n f t (next x)) → Law v n f (s ++ t) (after read next)
then_law first second = after_law first second (λ us h. refl)

takes_some : (front start : List TokenForm) (t : TokenForm) → (front ≡ [] → t ∷ start ≡ []) → 0 < length front
takes_some [] start t h = let e = h refl in absurd cc
takes_some (u ∷ front) start t h = omega arith

-- the first part takes a token
pub after_deeper : {v : Bool} {A B : Type 0} {n : ℕ} {e f : Ends} {u : TokenForm} {s t : List TokenForm} {read : Reader A} {next : A → Reader B} → Law v (suc n) e (u ∷ s) read → ((x : A) → Law v n f t (next x))
    → ((us : List TokenForm) → f us ≡ true → e (t ++ us) ≡ true) → Law v (suc n) f (u ∷ s ++ t) (after read next)
after_deeper {v} {A} {n = n} {u = u} {s = s} {read = read} first second fits = after_at shorter first second fits
  where
    shorter : Leaves v n (suc n) read
    shorter ts x rest le r =
        let a = first.judged.reads ts x rest le r in
        let some = takes_some a.front s u a.takes in
        let less = le.fewer in
        record { fewer = omega (arith, ap length a.is, length-append a.front rest); all_in = in_rest v ts a.front rest a.is le.all_in }

read_as_law : {v : Bool} {A B : Type 0} {n : ℕ} {e : Ends} {s : List TokenForm} {read : Reader A} (make : A → B) → Law v n e s read → Law v n e s (λ ts. read_as make (read ts))
read_as_law {v} {A} {B} {n} {e} {s} {read} make law = record {
  value = make law.value;
  writable = law.writable;
  begins = λ us h. rw (law.begins us h) refl;
  judged = record {
    reads = λ ts y rest le r.
        let x = read_as_ok make (read ts) y rest r in
        let a = law.judged.reads ts x.0 rest le x.1 in
        record { front = a.front; is = a.is; plain = a.plain; takes = a.takes; again = λ us h. rw (a.again us h) (ap (λ (z : B). Ok (z, us)) x.2) };
    fails = λ ts rest le r.
        let a = law.judged.fails ts rest le (read_as_err (read ts) rest r) in
        record { front = a.front; is = a.is; plain = a.plain; again = λ us h. rw (a.again us h) refl; goes_on = by_front a.front a.goes_on };
  };
}
  where
    read_as_err : (o : Reading A) (rest : List TokenForm) → read_as make o ≡ Err rest → o ≡ Err rest
    read_as_err (Ok x) rest r = absurd cc
    read_as_err (Err d) rest r = ap (λ (us : List TokenForm). err_with us) (err_is {A = B} d rest r)
      where
        err_with : List TokenForm → Reading A
        err_with us = Err us

    by_front : (front : List TokenForm) → GoesOn v e read front → GoesOn v e (λ us. read_as make (read us)) front
    by_front [] c = tt
    by_front (t ∷ front) c = record { more = c.more; value = make c.value; writable = c.writable; whole = λ us h. rw (c.whole us h) refl }

pub counted_law : {v : Bool} {A B : Type 0} {n : ℕ} {e : Ends} {s : List TokenForm} {read : Reader A} (make : A → B) → Law v n e s read → Law v n e s (counted make read)
unfolding counted
counted_law {read = read} make law = law_as {same = λ ts. read_as make (read ts)} (λ ts. refl) (read_as_law make law)

-- ---- one way behind a first token that is picked, and another where none is

abbrev pub lead_by : {A : Type 0} → Option (Reader A) → Reader A → TokenForm → Reader A
lead_by (Some here) other t ts = here ts
lead_by None other t ts = other (t ∷ ts)

abbrev pub lead : {A : Type 0} → (TokenForm → Option (Reader A)) → Reader A → Reader A
lead pick other [] = other []
lead pick other (t ∷ ts) = lead_by (pick t) other t ts

-- the first token is not picked
abbrev pub Passes : {A : Type 0} → (TokenForm → Option (Reader A)) → List TokenForm → Type 0
Passes pick [] = Unit {0}
Passes pick (t ∷ ts) = pick t ≡ None

pub record SomeLaw {A : Type 0} (second : Bool) (n : ℕ) (ends : Ends) (read : Reader A) : Type 0 where
  pub start : List TokenForm
  pub law : Law second n ends start read

abbrev pub Picked : {A : Type 0} → Bool → ℕ → Ends → TokenForm → Option (Reader A) → Type 0
Picked v n ends t None = Unit {0}
Picked v n ends t (Some here) = IsPlain t × (IsIn v t → SomeLaw v n ends here)

lead_passes : {A : Type 0} (pick : TokenForm → Option (Reader A)) (other : Reader A) (ts : List TokenForm) → Passes pick ts → lead pick other ts ≡ other ts
lead_passes pick other [] h = refl
lead_passes pick other (t ∷ ts) h = ap (λ (o : Option _). lead_by o other t ts) h

passes_follow : {A : Type 0} (pick : TokenForm → Option (Reader A)) (ts rest front us : List TokenForm) → ts ≡ front ++ rest → Passes pick ts → SameHead rest us ⊎ (front ≡ [] → Passes pick us) → Passes pick (front ++ us)
passes_follow pick ts rest (v ∷ front) us is h f = let e = subst (λ (ws : List TokenForm). Passes pick ws) is h in e
passes_follow pick ts rest [] us is h (inr f) = f refl
passes_follow pick ts [] [] us is h (inl f) = absurd f
passes_follow pick ts (r ∷ rest) [] [] is h (inl f) = tt
passes_follow pick ts (r ∷ rest) [] (u ∷ us) is h (inl f) = let e : pick r ≡ None = subst (λ (ws : List TokenForm). Passes pick ws) is h in ap pick (sym f) ∙ e

tail_few : {v : Bool} {m n : ℕ} {t : TokenForm} {ts : List TokenForm} → n ≤ suc m → Few v n (t ∷ ts) → Few v m ts
tail_few deep few = let less = few.fewer in record { fewer = omega arith; all_in = few.all_in.1 }

lead_judges : {v : Bool} {A : Type 0} {m n : ℕ} {e : Ends} {s : List TokenForm} (pick : TokenForm → Option (Reader A)) (other : Reader A) → n ≤ suc m → ((t : TokenForm) → Picked v m e t (pick t))
    → Judges v n e s other → (s ≡ [] → (us : List TokenForm) → e us ≡ true → Passes pick us) → Judges v n e s (lead pick other)
lead_judges {v} {A} {m} {n} {e} {s} pick other deep picked judged fits = record { reads = reads; fails = fails }
  where
    follows : (rest front us : List TokenForm) → (front ≡ [] → s ≡ []) → Follows e rest us → SameHead rest us ⊎ (front ≡ [] → Passes pick us)
    follows rest front us takes (inl h) = inl h
    follows rest front us takes (inr h) = inr (λ none. fits (takes none) us h)

    passed : (ts : List TokenForm) (y : A) (rest : List TokenForm) → Few v n ts → Passes pick ts → other ts ≡ Ok (y, rest) → ReadSo e s (lead pick other) ts y rest
    passed ts y rest le h r =
        let a = judged.reads ts y rest le r in
        record {
          front = a.front;
          is = a.is;
          plain = a.plain;
          takes = a.takes;
          again = λ us f. lead_passes pick other (a.front ++ us) (passes_follow pick ts rest a.front us a.is h (follows rest a.front us a.takes f)) ∙ a.again us f;
        }

    taken : (t : TokenForm) (ts : List TokenForm) (y : A) (rest : List TokenForm) (o : Option (Reader A)) → Few v n (t ∷ ts) → pick t ≡ o → Picked v m e t o → lead_by o other t ts ≡ Ok (y, rest)
        → ReadSo e s (lead pick other) (t ∷ ts) y rest
    taken t ts y rest None le is p r = passed (t ∷ ts) y rest le is r
    taken t ts y rest (Some here) le is p r =
        let a = (p.1 le.all_in.0).law.judged.reads ts y rest (tail_few deep le) r in
        record {
          front = t ∷ a.front;
          is = ap (λ (us : List TokenForm). t ∷ us) a.is;
          plain = (p.0, a.plain);
          takes = λ none. absurd cc;
          again = λ us f. ap (λ (o : Option (Reader A)). lead_by o other t (a.front ++ us)) is ∙ a.again us f;
        }

    reads : (ts : List TokenForm) (y : A) (rest : List TokenForm) → Few v n ts → lead pick other ts ≡ Ok (y, rest) → ReadSo e s (lead pick other) ts y rest
    reads [] y rest le r = passed [] y rest le tt r
    reads (t ∷ ts) y rest le r = taken t ts y rest (pick t) le refl (picked t) r

    passed_over : (front us : List TokenForm) (ts rest : List TokenForm) → ts ≡ front ++ rest → Passes pick ts → GoesOn v e other front → GoesOn v e (lead pick other) front
    passed_over [] us ts rest is h c = tt
    passed_over (v ∷ front) us ts rest is h c = record {
      more = c.more;
      value = c.value;
      writable = c.writable;
      whole = λ vs f. lead_passes pick other ((v ∷ front) ++ (c.more ++ vs)) (passes_follow pick ts rest (v ∷ front) (c.more ++ vs) is h (inr (λ none. absurd cc))) ∙ c.whole vs f;
    }

    stopped : (ts rest : List TokenForm) → Few v n ts → Passes pick ts → other ts ≡ Err rest → FailsSo v e (lead pick other) ts rest
    stopped ts rest le h r =
        let a = judged.fails ts rest le r in
        record {
          front = a.front;
          is = a.is;
          plain = a.plain;
          again = λ us f. lead_passes pick other (a.front ++ us) (passes_follow pick ts rest a.front us a.is h (inl f)) ∙ a.again us f;
          goes_on = passed_over a.front [] ts rest a.is h a.goes_on;
        }

    behind : (t : TokenForm) (here : Reader A) → pick t ≡ Some here → SomeLaw v m e here → (front : List TokenForm) → GoesOn v e here front → Completes v e (lead pick other) (t ∷ front)
    behind t here is p [] c = record {
      more = p.start;
      value = p.law.value;
      writable = p.law.writable;
      whole = λ us h. ap (λ (o : Option (Reader A)). lead_by o other t (p.start ++ us)) is ∙ p.law.begins us h;
    }
    behind t here is p (v ∷ front) c = record {
      more = c.more;
      value = c.value;
      writable = c.writable;
      whole = λ us h. ap (λ (o : Option (Reader A)). lead_by o other t ((v ∷ front) ++ (c.more ++ us))) is ∙ c.whole us h;
    }

    failed : (t : TokenForm) (ts rest : List TokenForm) (o : Option (Reader A)) → Few v n (t ∷ ts) → pick t ≡ o → Picked v m e t o → lead_by o other t ts ≡ Err rest → FailsSo v e (lead pick other) (t ∷ ts) rest
    failed t ts rest None le is p r = stopped (t ∷ ts) rest le is r
    failed t ts rest (Some here) le is p r =
        let a = (p.1 le.all_in.0).law.judged.fails ts rest (tail_few deep le) r in
        record {
          front = t ∷ a.front;
          is = ap (λ (us : List TokenForm). t ∷ us) a.is;
          plain = (p.0, a.plain);
          again = λ us f. ap (λ (o : Option (Reader A)). lead_by o other t (a.front ++ us)) is ∙ a.again us f;
          goes_on = behind t here is (p.1 le.all_in.0) a.front a.goes_on;
        }

    fails : (ts rest : List TokenForm) → Few v n ts → lead pick other ts ≡ Err rest → FailsSo v e (lead pick other) ts rest
    fails [] rest le r = stopped [] rest le tt r
    fails (t ∷ ts) rest le r = failed t ts rest (pick t) le refl (picked t) r

-- the other way has a law: the shortest spelling goes there
pub lead_law : {v : Bool} {A : Type 0} {m n : ℕ} {e : Ends} {s : List TokenForm} (pick : TokenForm → Option (Reader A)) (other : Reader A) → n ≤ suc m → ((t : TokenForm) → Picked v m e t (pick t))
    → Law v n e s other → ((us : List TokenForm) → e us ≡ true → Passes pick (s ++ us)) → Law v n e s (lead pick other)
lead_law {e = e} {s = s} pick other deep picked law fits = record {
  value = law.value;
  writable = law.writable;
  begins = λ us h. lead_passes pick other (s ++ us) (fits us h) ∙ law.begins us h;
  judged = lead_judges pick other deep picked law.judged (λ none us h. subst (λ (vs : List TokenForm). Passes pick (vs ++ us)) none (fits us h));
}

-- a token has to be picked
pub lead_only : {v : Bool} {A : Type 0} {m n : ℕ} {e : Ends} {s : List TokenForm} (pick : TokenForm → Option (Reader A)) (here : Reader A) (t : TokenForm) → n ≤ suc m → ((u : TokenForm) → Picked v m e u (pick u))
    → AreWritable v (t ∷ []) → pick t ≡ Some here → Law v m e s here → Law v n e (t ∷ s) (lead pick nowhere)
lead_only {v} {A} {m} {n} {e} {s} pick here t deep picked w is law = record {
  value = law.value;
  writable = (w.0, law.writable);
  begins = λ us h. ap (λ (o : Option (Reader A)). lead_by o nowhere t (s ++ us)) is ∙ law.begins us h;
  judged = lead_judges pick nowhere deep picked nowhere_judges (λ none us h. absurd cc);
}
