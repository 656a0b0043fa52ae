-- Laws of remainders: what a running remainder keeps, and what can be cancelled.
use mathlib.Core.Path.{◌≡◌, sym, ◌∙◌, ap}
use Prim.Native.Nat.{ℕ, zero, suc, ◌+◌, ◌*◌, ◌/◌, ◌%◌, ◌^◌}
use native.Mathlib.Nat.{add-mul-mod_self_left, div-add-mod, add-zero, one-mul, mul-one, mul_assoc, pow-suc, pow-zero}
use native.Mathlib.Omega.{arith}

-- n * w + v is the remainder's w-fold and v, with a multiple of m
split : (m n w v : ℕ) → n * w + v ≡ (n % m * w + v) + m * (n / m * w)
split m n w v = omega (arith, ap (λ (x : ℕ). x * w) (div-add-mod n m))

-- reducing before the step changes nothing after it
pub mod_step : (m n w v : ℕ) → (n % m * w + v) % m ≡ (n * w + v) % m
mod_step m n w v = sym (ap (λ (x : ℕ). x % m) (split m n w v) ∙ add-mul-mod_self_left (n % m * w + v) m (n / m * w))

pub mod-mul : (m n w : ℕ) → (n % m * w) % m ≡ (n * w) % m
mod-mul m n w = simp add-zero at (mod_step m n w 0)

-- a factor with an inverse is undone by it
back : (m c e x : ℕ) → (e * c) % m ≡ 1 → ((x * c) % m * e) % m ≡ x % m
back m c e x h =
    let regroup : x * c * e ≡ e * c * x = omega arith in
    mod-mul m (x * c) e
    ∙ ap (λ (n : ℕ). n % m) regroup
    ∙ sym (mod-mul m (e * c) x)
    ∙ ap (λ (n : ℕ). n * x % m) h
    ∙ ap (λ (n : ℕ). n % m) (one-mul x)

pub cancel : (m c e x y : ℕ) → (e * c) % m ≡ 1 → (x * c) % m ≡ (y * c) % m → x % m ≡ y % m
cancel m c e x y h p = sym (back m c e x h) ∙ ap (λ (n : ℕ). n * e % m) p ∙ back m c e y h

pub cancel_pow : (m c e : ℕ) → (e * c) % m ≡ 1 → (k x y : ℕ) → (x * c ^ k) % m ≡ (y * c ^ k) % m → x % m ≡ y % m
cancel_pow m c e h zero x y p = simp (pow-zero, mul-one) at p
cancel_pow m c e h (suc k) x y p = cancel_pow m c e h k x y (cancel m c e (x * c ^ k) (y * c ^ k) h (simp (pow-suc, ← mul_assoc) at p))

pub cancel_add : (a x y : ℕ) → (x + a) % 97 ≡ (y + a) % 97 → x % 97 ≡ y % 97
cancel_add a x y p = omega arith
