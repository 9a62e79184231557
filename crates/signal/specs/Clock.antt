-- Clocks in the letters of source document 002, §3 and §4: h* and h+, x↓h and x↑h, and ⊗. Time is counted from 0, and a signal is a function of it.
use Rattle.std.specs.Prelude.{ℕ, zero, suc, ◌+◌, ◌*◌, ◌≤◌, ◌≡◌, Bool, List, [], ◌∷◌, ltb, ℤ, pos, negsuc, ◌-ℤ◌}
use Rattle.word.specs.Choice.{pick, ◌and◌, bit}
use Rattle.word.specs.Operation.{demand}
use Rattle.word.specs.Tick.{Beam, tick, head_or, zeros}
use Rattle.arity.specs.Tree.{Tree, outs}
use Rattle.arity.specs.Tree.Tree.{ondemand}
use Rattle.signal.specs.Signal.{History, Processor, demands, signal}

-- the value of a clock at each time
abbrev pub Clock : Type 0
Clock = ℕ → ℕ

-- a signal at any time: "the value of any Faust signal s at a negative time is always 0" (§2.2)
abbrev pub at : {A : Type 0} → A → (ℕ → A) → ℤ → A
at nought x (pos t) = x t
at nought x (negsuc t) = nought

-- min { t | p t } among the times before n; n where there is none
unfoldable pub least : (ℕ → Bool) → ℕ → ℕ
least p zero = 0
least p (suc n) = pick (ltb (least p n) n) (least p n) (pick (p n) n (suc n))

-- "h*(0) = min{t'|(h(t') = 1)}, h*(t) = min{t'|(h(t') = 1) ∧ (t' > h*(t-1))}" (§3.1), among the first n ticks. A demand stands for "= 1": since E1
-- it is any clock but 0.
unfoldable pub star : ℕ → Clock → ℕ → ℕ
unfolding least
star n h zero = least (λ t'. demand (h t')) n
star n h (suc t) = least (λ t'. demand (h t') and ltb (star n h t) t') n

-- how many demands there are before the time t
unfoldable pub demands_before : Clock → ℕ → ℕ
demands_before h zero = 0
demands_before h (suc t) = demands_before h t + bit (demand (h t))

-- "h+(t) = (Σ h(i)) - 1", i from 0 to t: "another signal h+ that counts the number of demands" (§3.1), so the sum is taken as their count, whatever
-- numbers the demands are
unfoldable pub plus : Clock → ℕ → ℤ
plus h t = pos (demands_before h (suc t)) -ℤ pos 1

-- "x↓h = λt. x(h*(t))" (§3.2), where h is known for n ticks
abbrev pub down : {A : Type 0} → ℕ → Clock → (ℕ → A) → ℕ → A
down n h x t = x (star n h t)

-- "x↑h = λt. x(h+(t))" (§3.3)
abbrev pub up : {A : Type 0} → A → Clock → (ℕ → A) → ℕ → A
up nought h x t = at nought x (plus h t)

-- "(h0 ⊗ h1)(t) = h1(t) * h0(h1+(t))" and "(h0 ⊗ h1) = h1 * (h0 ↑ h1)" (§4.5). The text above them has "h0(h1+(t)-1)"; the
-- formula is taken, since h+ has its 1 subtracted already. The product is one of natural numbers and does not wrap: it is a demand exactly where both
-- factors are, also where they are 65536 and its low 32 bits are 0.
infixl 7 ◌⊗◌
abbrev pub ◌⊗◌ : Clock → Clock → Clock
◌⊗◌ h₀ h₁ t = h₁ t * up 0 h₁ h₀ t

-- the first n values of a signal, the latest first
unfoldable pub up_to : {A : Type 0} → ℕ → (ℕ → A) → List A
up_to zero x = []
up_to (suc n) x = x n ∷ up_to n x

-- the first n ticks of input signals x and control signals u, and the same with a clock before the inputs
abbrev pub ticks : ℕ → (ℕ → Beam) → (ℕ → Beam) → History
ticks n x u = up_to n (λ t. tick (x t) (u t))

abbrev pub clocked : ℕ → Clock → (ℕ → Beam) → (ℕ → Beam) → History
clocked n h x u = ticks n (λ t. h t ∷ x t) u

-- the first k ticks of x↓h and u↓h: "the external signal x .. seen from inside ondemand(P)" (§3.2)
abbrev pub inside : ℕ → Clock → (ℕ → Beam) → (ℕ → Beam) → ℕ → History
inside n h x u k = ticks k (down n h x) (down n h u)

-- the outputs of a processor at its own time t
abbrev pub outputs : Processor → (ℕ → History) → ℕ → Beam
outputs p past t = head_or [] (p (past (suc t)))

-- The laws, for a clock that is known for n ticks, of which t have passed. A body sees x↓h: its own history is that of the inputs and controls as
-- they are at the demands.
abbrev pub BodySees : Type 0
BodySees = (n : ℕ) (h : Clock) (x u : ℕ → Beam) (t : ℕ) → t ≤ n → demands (clocked t h x u) ≡ inside n h x u (demands_before h t)

-- "[[P]](x1↓h,..,xn↓h) = (y1,..,ym)" gives "[[ondemand(P)]](h,x1,..,xn) = (y1↑h,..,ym↑h)" (§3.4)
abbrev pub OndemandGives : Type 0
OndemandGives = (n : ℕ) (h : Clock) (x u : ℕ → Beam) (i : ℕ) (b : Tree) (t : ℕ) → t ≤ n
    → signal (ondemand i b) (clocked t h x u) ≡ up_to t (up (zeros (outs b)) h (outputs (signal b) (inside n h x u)))

-- "(P↓h0)↓h1) = P↓(h0⊗h1)" (§4.2), where P↓h is ondemand(P) with the clock h. The inner clock is k outside; inside h1 it is h0 = k↓h1.
abbrev pub ClocksCombine : Type 0
ClocksCombine = (n : ℕ) (h₁ k : Clock) (x u : ℕ → Beam) (i j : ℕ) (b : Tree) (t : ℕ) → t ≤ n
    → signal (ondemand i (ondemand j b)) (clocked t h₁ (λ s. k s ∷ x s) u) ≡ signal (ondemand i b) (clocked t (down n h₁ k ⊗ h₁) x u)
