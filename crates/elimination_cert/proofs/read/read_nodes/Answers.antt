use Rattle.std.proofs.Common.{◌≡◌, ◌<◌, ◌≤◌, ◌-◌, ℕ, List, length, map, take, drop, subst, arith}
use Rattle.std.proofs.lemmas.List.{take_rest, length-map}
use Rattle.state_space.specs.Spaces.{sizes}
use Rattle.tableau_rules.specs.CertView.{cert_node_of}
use Rattle.elimination_cert.specs.CertTexts.{node_text, FitsSizes}
use Rattle.elimination_cert.specs.Lines.{HasNoNode}
use Rattle.elimination_cert.proofs.ListLaws.{all_of_each}
use Rattle.elimination_cert.proofs.Faults.{refused_surplus, refused_none, refused_end}
use Rattle.elimination_cert.proofs.ReadSteps.{few_sizes, read_to, read_next}
use Rattle.elimination_cert.proofs.read.read_nodes.Goals as goal

pub lines-preserved : goal.lines-preserved
lines-preserved c =
    let own = sizes c.args.space.now in
    let bytes = c.args.bytes.now in
    let read = read_to own c.args.count c.lines.nodes.items bytes c.lines.at (few_sizes c.args.space.now) c.requires.few c.lines.invariant.inside c.lines.invariant.text c.lines.invariant.fits c.lines.invariant.few in
    let told = rw c.in-Some.is at c.in_ok-entry.ensures in
    let rest : take (length c.args.bytes.now - c.lines.at) (drop c.lines.at c.args.bytes.now) ≡ drop c.lines.at c.args.bytes.now = take_rest c.args.bytes.now c.lines.at in
    let short = subst (λ (xs : List ℕ). c.in-Some.len ≤ length xs) rest told.2 in
    let text = subst (λ (xs : List ℕ). take c.in-Some.len xs ≡ node_text own (cert_node_of c.in-Some.entry)) rest told.3 in
    let more : length c.lines.nodes.items < c.args.count = omega (arith, c.len.ensures, c.if-len-count.false, c.lines.invariant.few) in
    let next = read_next own c.args.count c.lines.nodes.items c.push.new.self.items bytes c.lines.at c.in-Some.len c.in-Some.entry read told.0 short text more c.in_ok-push-in-Some.ensures.items in
    record {
      inside = next.within;
      text = next.text;
      fits = all_of_each (FitsSizes own) (map cert_node_of c.push.new.self.items) next.reading.fits;
      few = omega (arith, next.reading.inside, length-map c.push.new.self.items cert_node_of);
    }

pub returns-in-None-clause-err : goal.returns-in-None-clause-err
returns-in-None-clause-err c =
    let own = sizes c.args.space.now in
    let bytes = c.args.bytes.now in
    let read = read_to own c.args.count c.lines.nodes.items bytes c.lines.at (few_sizes c.args.space.now) c.requires.few c.lines.invariant.inside c.lines.invariant.text c.lines.invariant.fits c.lines.invariant.few in
    let told = rw c.in-None.is at c.in_ok-entry.ensures in
    refused_none own c.args.count (map cert_node_of c.lines.nodes.items) bytes c.lines.at read c.lines-test.true (subst (HasNoNode own) (take_rest bytes c.lines.at) told)

pub returns-then-len-count-clause-err : goal.returns-then-len-count-clause-err
returns-then-len-count-clause-err c =
    let own = sizes c.args.space.now in
    let bytes = c.args.bytes.now in
    let read = read_to own c.args.count c.lines.nodes.items bytes c.lines.at (few_sizes c.args.space.now) c.requires.few c.lines.invariant.inside c.lines.invariant.text c.lines.invariant.fits c.lines.invariant.few in
    refused_surplus own c.args.count (map cert_node_of c.lines.nodes.items) bytes c.lines.at read c.lines-test.true (omega (arith, length-map c.lines.nodes.items cert_node_of, c.len.ensures, c.if-len-count.true))

pub returns-then-len-count-2-clause-err : goal.returns-then-len-count-2-clause-err
returns-then-len-count-2-clause-err c =
    let own = sizes c.args.space.now in
    let bytes = c.args.bytes.now in
    let read = read_to own c.args.count c.lines.nodes.items bytes c.lines.at (few_sizes c.args.space.now) c.requires.few c.lines.invariant.inside c.lines.invariant.text c.lines.invariant.fits c.lines.invariant.few in
    refused_end own c.args.count (map cert_node_of c.lines.nodes.items) bytes c.lines.at read c.lines-test.false (omega (arith, length-map c.lines.nodes.items cert_node_of, c.len-2.ensures, c.if-len-count-2.true))
