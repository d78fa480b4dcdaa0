-- What the search finds is the way.
use Rattle.std.proofs.Common.{◌≡◌, ◌≢◌, ℕ, suc, ◌-◌, ◌≤◌, Bool, true, List, [], ◌∷◌, length, refl, sym, ap, subst, ◌∙◌, arith, ⊎_elim}
use Rattle.std.specs.Prelude.{Some}
use Rattle.std.proofs.lemmas.Bool.{cases_order}
use Rattle.grid_world.specs.declared.cell.Dir.{Dir}
use Rattle.grid_world.specs.declared.cell.Dir.TheVariants.{North, East, South, West}
use Rattle.grid_world.specs.declared.cell.Answer.{Answer}
use Rattle.grid_world.specs.declared.cell.Answer.TheVariants.{Here, NoWay, Step}
use Rattle.grid_world.specs.Grid.{Grid, Point}
use Rattle.grid_world.specs.Open.{is_open}
use Rattle.grid_world.specs.Walks.{next, IsWalk, HasDistance}
use Rattle.grid_world.specs.Way.{way_between, order, Leads, IsWay}
use Rattle.grid_world.proofs.Ways.{way_is}
use Rattle.grid_path.specs.Bordered.{stride_of, number_of, IsTable}
use Rattle.grid_path.specs.Levels.{at, Reaches, Nears, IsFound}
use Rattle.grid_path.proofs.Cells.{IsIn, open_in}
use Rattle.grid_path.proofs.Numbered.{forth, back, reaches_of, walk_of}

module _ (g : Grid) (on : List Bool) (a b : Point) where
  one_order : (d e : Dir) → order d ≡ order e → d ≡ e
  one_order North North h = refl
  one_order East East h = refl
  one_order South South h = refl
  one_order West West h = refl
  one_order _ _ h = absurd (omega (arith, h))

  one_distance : (m n : ℕ) → HasDistance (is_open g on) a b m → HasDistance (is_open g on) a b n → m ≡ n
  one_distance m n far far' =
      let below = far.least far'.walk.0 far'.walk.1 in
      let above = far'.least far.walk.0 far.walk.1 in
      let long = far.walk.2 in
      let long' = far'.walk.2 in
      omega (arith, below, above, long, long')

  one_step : (d e : Dir) (m n : ℕ) → IsWay g on a b (Step d m) → IsWay g on a b (Step e n) → Step d m ≡ Step e n
  one_step d e m n (apart, far, leads, first) (apart', far', leads', first') =
      let same : m ≡ n = one_distance m n far far' in
      let leads_e : Leads (is_open g on) a b (m - 1) e = subst (λ (k : ℕ). Leads (is_open g on) a b (k - 1) e) (sym same) leads' in
      let leads_d : Leads (is_open g on) a b (n - 1) d = subst (λ (k : ℕ). Leads (is_open g on) a b (k - 1) d) same leads in
      let dirs : d ≡ e = ⊎_elim (λ h. one_order d e h) (λ h. ⊎_elim (λ low. absurd (first' d low leads_d)) (λ low. absurd (first e low leads_e)) h)
      (cases_order (order d) (order e)) in
      ap (λ x. Step x m) dirs ∙ ap (λ k. Step e k) same

  -- a way is told by the walks alone
  pub one_way : (r s : Answer) → IsWay g on a b r → IsWay g on a b s → r ≡ s
  one_way Here Here p q = refl
  one_way Here NoWay p q = absurd (q [] p)
  one_way Here (Step e n) p q = absurd (q.0 p)
  one_way NoWay Here p q = absurd (p [] q)
  one_way NoWay NoWay p q = refl
  one_way NoWay (Step e n) p q = absurd (p q.1.walk.0 q.1.walk.1)
  one_way (Step d m) Here p q = absurd (p.0 q)
  one_way (Step d m) NoWay p q = absurd (q p.1.walk.0 p.1.walk.1)
  one_way (Step d m) (Step e n) p q = one_step d e m n p q

  module _ (t : List Bool) (is : IsTable g on t) (in_a : IsIn g a) (in_b : IsIn g b) (apart : a ≢ b) where
    abbrev NearsAnswer : ℕ → Dir → Type 0
    NearsAnswer n d = Nears (at t) (stride_of g) (number_of g b) (number_of g a) n d

    nears_of : (d : Dir) (c : Point) (cells : List Point) → next d a ≡ Some c → is_open g on c ≡ true → IsWalk (is_open g on) c cells b → NearsAnswer (length cells) d
    nears_of d c cells step there walk =
        let f = forth g on t is d a c step there in (number_of g c, f.0, f.1, reaches_of g on t is b cells c walk)

    leads_of : (n : ℕ) (d : Dir) → NearsAnswer n d → ((e : Dir) (m : ℕ) → NearsAnswer m e → n ≤ m) → Leads (is_open g on) a b n d
    leads_of n d (j, step, there, rest) least =
        let r = back g on t is d a j in_a step there in (
          r.to,
          r.step,
          r.free,
          record {
            walk = walk_of g on t is b in_b n r.to (open_in g on r.to r.free)
                (subst (λ (i : ℕ). Reaches (at t) (stride_of g) (number_of g b) n i) (sym r.number) rest);
            least = λ cells walk. least d (length cells) (nears_of d r.to cells r.step r.free walk);
          },
        )

    step_distance : (n : ℕ) (d : Dir) → Leads (is_open g on) a b n d → ((e : Dir) (m : ℕ) → NearsAnswer m e → n ≤ m) → HasDistance (is_open g on) a b (suc n)
    step_distance n d (c, step, there, far) least = record {
      walk = (c ∷ far.walk.0, (d, step, there, far.walk.1), ap suc far.walk.2);
      least = from;
    }
      where
        from : (cells : List Point) → IsWalk (is_open g on) a cells b → suc n ≤ length cells
        from [] e = absurd (apart e)
        from (x ∷ cells) (e, next_e, open_e, walk) = let l = least e (length cells) (nears_of e x cells next_e open_e walk) in omega (arith, l)

    found_way : (r : Answer) → IsFound (at t) (stride_of g) (number_of g b) (number_of g a) r → IsWay g on a b r
    found_way Here f = absurd f
    found_way NoWay f = none
      where
        none : (cells : List Point) → IsWalk (is_open g on) a cells b → ⊥
        none [] e = apart e
        none (c ∷ cells) (d, step, there, walk) = f d (length cells) (nears_of d c cells step there walk)
    found_way (Step d n) (k, e, f) =
        let leads = leads_of k d f.nears f.least in
        let same : suc k ≡ n = omega (arith, e) in
        let before : k ≡ n - 1 = omega (arith, e) in (
          apart,
          subst (λ (m : ℕ). HasDistance (is_open g on) a b m) same (step_distance k d leads f.least),
          subst (λ (m : ℕ). Leads (is_open g on) a b m d) before leads,
          λ x low (c, step, there, far).
              f.first x low (subst (λ (m : ℕ). NearsAnswer m x) (far.walk.2 ∙ sym before) (nears_of x c far.walk.0 step there far.walk.1)),
        )

    -- what the search finds is the way
    pub way_found : (r : Answer) → IsFound (at t) (stride_of g) (number_of g b) (number_of g a) r → r ≡ way_between g on a b
    way_found r f = one_way r (way_between g on a b) (found_way r f) (way_is g on a b)
