mod Apart
