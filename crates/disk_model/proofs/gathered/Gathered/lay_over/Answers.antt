use Rattle.std.proofs.Common.{◌≡◌, ℕ, ◌-◌, ◌<◌, List, inl, inr, length, drop, ◌∙◌, ap, arith, length-drop}
use Rattle.std.proofs.lemmas.List.{take_rest}
use Rattle.disk_model.specs.Places.{overwritten}
use Rattle.disk_model.specs.Gathering.{fronted}
use Rattle.disk_model.specs.OverLaws.{fronted_length, put_over, laid_nothing, laid_within, laid_from}
use Rattle.disk_model.proofs.gathered.Gathered.lay_over.Goals as goal

-- they begin within what was read
pub returns-then-skipped-into : goal.returns-then-skipped-into
returns-then-skipped-into c = record {
  laid = λ l within fits is.
      let self = c.args.self.now in
      let bytes = self.bytes.items in
      let old = c.args.into.now in
      let new = c.copy_front.new.into in
      let n = length old in
      let skipped = self.at - c.args.at in
      let copied : new ≡ fronted (drop skipped old) bytes =
      c.copy_front.ensures.copied
      ∙ ap (λ (y : List ℕ). fronted y c.deref.result.now) (take_rest old skipped)
      ∙ ap (λ (b : List ℕ). fronted (drop skipped old) b) c.deref.ensures.value in
      let long : length new ≡ n - skipped = ap length copied ∙ fronted_length (drop skipped old) bytes ∙ length-drop skipped old in
      put_over old new skipped (n - skipped) long
      ∙ ap (λ (f : List ℕ). overwritten old skipped f) copied
      ∙ ap (λ (x : List ℕ). overwritten x skipped (fronted (drop skipped x) bytes)) is
      ∙ laid_within l self.at bytes c.args.at n within fits c.if-at-self.true c.if-skipped-into.true;
}

-- they begin after it
pub returns-else-skipped-into : goal.returns-else-skipped-into
returns-else-skipped-into c = record {
  laid = λ l within fits is. is ∙ laid_nothing l c.args.self.now.at c.args.self.now.bytes.items c.args.at (length c.args.into.now) within fits (inl (omega (arith, c.if-at-self.true, c.if-skipped-into.false)));
}

-- what was read begins within them
pub returns-then-skipped-len : goal.returns-then-skipped-len
returns-then-skipped-len c = record {
  laid = λ l within fits is.
      let self = c.args.self.now in
      let bytes = self.bytes.items in
      let old = c.args.into.now in
      let skipped = c.args.at - self.at in
      let all = c.deref-then-skipped-len.result.now in
      let high : skipped < length bytes = omega (arith, c.if-skipped-len.true, c.len.ensures, self.bytes.ok.0) in
      c.copy_front-then-skipped-len.ensures.copied
      ∙ ap (λ (b : List ℕ). fronted old b) (take_rest all skipped)
      ∙ ap (λ (b : List ℕ). fronted old (drop skipped b)) c.deref-then-skipped-len.ensures.value
      ∙ ap (λ (x : List ℕ). fronted x (drop skipped bytes)) is
      ∙ laid_from l self.at bytes c.args.at (length old) within fits (omega (arith, c.if-at-self.false)) high;
}

-- they end before it
pub returns-else-skipped-len : goal.returns-else-skipped-len
returns-else-skipped-len c = record {
  laid = λ l within fits is.
      is ∙ laid_nothing l c.args.self.now.at c.args.self.now.bytes.items c.args.at (length c.args.into.now) within fits
      (inr (omega (arith, c.if-at-self.false, c.if-skipped-len.false, c.len.ensures, c.args.self.now.bytes.ok.0)));
}
