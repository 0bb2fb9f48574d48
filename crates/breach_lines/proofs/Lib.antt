mod Chain
